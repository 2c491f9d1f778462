use Rattle.std.proofs.Common.{◌≡◌, ◌++◌, drop}
use Rattle.fmp_image_bytes.specs.Bodies.{step_spelled}
use Rattle.fmp_image_bytes.specs.Pairs.{pairs_spelled}
use Rattle.fmp_image_bytes.proofs.bodies.put_steps.Given as goal

abbrev pub invariant-loop-position : goal.invariant-loop-position
invariant-loop-position l =
    l.out.items ++ pairs_spelled step_spelled (drop l.position l.instructions) (drop l.position l.depths)
    ≡ l.fn.out.items ++ pairs_spelled step_spelled l.instructions l.depths
