use Rattle.std.proofs.Common.{◌≡◌, ◌++◌, map}
use Rattle.std.specs.List.{range_with_len}
use Rattle.fmp_fields.specs.Pieces.{local_of}
use Rattle.fmp_fields.proofs.piece.push_locals.Given as goal

abbrev pub invariant-loop-l : goal.invariant-loop-l
invariant-loop-l g = g.fields.items ≡ g.fn.fields.items ++ map (local_of g.owner) (range_with_len 0 g.l)
