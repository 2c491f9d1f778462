use Rattle.std.proofs.Common.{◌≡◌, ◌-◌, map}
use Rattle.fmp_instructions.specs.Instructions.{body_tables}
use Rattle.fmp_image_bytes.specs.Bodies.{body_at}
use Rattle.fmp_image_bytes.specs.Pairs.{pairs_at}
use Rattle.fmp_image_bytes.proofs.PairLoops.{with_fronts}
use Rattle.fmp_image_bytes.proofs.bodies.read_some_bodies.Given as goal

abbrev pub invariant-loop : goal.invariant-loop
invariant-loop l = with_fronts l.heads.items (map body_tables l.bodies.items)
    (pairs_at (body_at l.version) (l.count - l.counter) l.rest) ≡ pairs_at (body_at l.version) l.count l.bytes
