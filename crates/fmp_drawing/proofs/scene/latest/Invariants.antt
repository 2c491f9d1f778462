use Rattle.std.proofs.Common.{◌≡◌, drop}
use Rattle.fmp_drawing.specs.Places.{latest}
use Rattle.fmp_drawing.proofs.scene.latest.Given as goal

abbrev pub invariant-loop-t : goal.invariant-loop-t
invariant-loop-t l =
    latest l.left l.right (drop l.t-index l.taken) l.last ≡ latest l.left l.right l.taken l.fn.least
