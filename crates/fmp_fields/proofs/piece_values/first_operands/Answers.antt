use Rattle.std.proofs.Common.{ℕ}
use Rattle.std.specs.Prelude.{get_or, pos}
use Rattle.fmp_reachable.specs.Numbers.{unsigned}
use Rattle.fmp_fields.proofs.Pieces.{four-told}
use Rattle.fmp_fields.proofs.piece_values.first_operands.Goals as goal

pub returns : goal.returns
returns c =
    four-told (λ (i : ℕ). unsigned (get_or c.args.operands.now i (pos 0))) _ _ _ _ c.number_at.ensures
    c.number_at-2.ensures c.number_at-3.ensures c.number_at-4.ensures
