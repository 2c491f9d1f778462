use Rattle.std.proofs.Common.{◌≡◌, take}
use Rattle.fmp_fields.specs.Pieces.{fields_of_pieces}
use Rattle.fmp_fields.proofs.field_plan.fields_in.Given as goal

abbrev pub invariant-loop-at : goal.invariant-loop-at
invariant-loop-at g = g.fields.items ≡ fields_of_pieces (take g.at g.pieces)
