use Rattle.std.proofs.Common.{◌≡◌, ◌++◌, map}
use Rattle.std.specs.List.{range_with_len}
use Rattle.fmp_fields.specs.Pieces.{operand_of}
use Rattle.fmp_fields.proofs.piece.push_operands.Given as goal

abbrev pub invariant-loop-i : goal.invariant-loop-i
invariant-loop-i g = g.fields.items ≡ g.fn.fields.items ++ map (operand_of g.owner) (range_with_len 0 g.i)
