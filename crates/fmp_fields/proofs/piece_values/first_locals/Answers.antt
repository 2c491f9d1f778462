use Rattle.std.proofs.Common.{ℕ}
use Rattle.std.specs.Prelude.{get_or, pos}
use Rattle.fmp_live.specs.Zeroed.{zeroed_by}
use Rattle.fmp_reachable.specs.Numbers.{unsigned}
use Rattle.fmp_fields.proofs.Pieces.{four-told}
use Rattle.fmp_fields.proofs.piece_values.first_locals.Goals as goal

pub returns : goal.returns
returns c =
    four-told (λ (l : ℕ). unsigned (get_or (zeroed_by c.args.row.now c.args.locals.now) l (pos 0))) _ _ _ _
    c.local_at.ensures c.local_at-2.ensures c.local_at-3.ensures c.local_at-4.ensures
