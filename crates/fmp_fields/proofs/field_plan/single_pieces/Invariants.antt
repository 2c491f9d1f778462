use Rattle.std.proofs.Common.{◌≡◌, take}
use Rattle.fmp_fields.specs.Pieces.{fields_of_pieces}
use Rattle.fmp_fields.proofs.field_plan.single_pieces.Given as goal

abbrev pub invariant-loop-at : goal.invariant-loop-at
invariant-loop-at g = fields_of_pieces g.pieces.items ≡ take g.at g.fields
