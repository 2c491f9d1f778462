use Rattle.std.proofs.Common.{◌≡◌, drop}
use Rattle.fmp_drawing.specs.Places.{earliest}
use Rattle.fmp_drawing.proofs.scene.earliest.Given as goal

abbrev pub invariant-loop-t : goal.invariant-loop-t
invariant-loop-t l =
    earliest l.left l.right (drop l.t-index l.taken) l.first ≡ earliest l.left l.right l.taken l.fn.most
