use Rattle.std.proofs.Common.{◌≡◌, ◌++◌, ◌∷◌, [], length, map, drop}
use Rattle.fmp_instructions.specs.Instructions.{body_tables}
use Rattle.fmp_image_bytes.specs.Bodies.{body_spelled}
use Rattle.fmp_image_bytes.specs.Pairs.{pairs_spelled}
use Rattle.fmp_image_bytes.proofs.bodies.put_bodies.Given as goal

abbrev pub invariant-loop-place : goal.invariant-loop-place
invariant-loop-place l =
    l.out.items ++ pairs_spelled body_spelled (drop l.place l.heads) (map body_tables (drop l.place l.bodies))
    ≡ (l.fn.out.items ++ length l.bodies ∷ []) ++ pairs_spelled body_spelled l.heads (map body_tables l.bodies)
