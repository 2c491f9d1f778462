use Rattle.std.proofs.Common.{◌≡◌, max, drop}
use Rattle.fmp_image_bytes.specs.Bodies.{greatest}
use Rattle.fmp_image_bytes.proofs.bodies.greatest.Given as goal

abbrev pub invariant-loop-depth : goal.invariant-loop-depth
invariant-loop-depth l = max l.most (greatest (drop l.depth-index l.depths)) ≡ greatest l.depths
