use Rattle.std.proofs.Common.{sym, ◌∙◌}
use Rattle.fmp_fields.proofs.field_plan.are_in.Goals as goal

pub returns : goal.returns
returns c = λ yes. sym c.in_ok-all.ensures ∙ (sym c.as_slice.ensures.value ∙ c.are_same.ensures yes)
