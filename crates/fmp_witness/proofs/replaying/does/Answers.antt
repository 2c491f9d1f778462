use Rattle.std.proofs.Common.{sym, ◌∙◌}
use Rattle.fmp_witness.proofs.Following.{done_taken, kept_taken}
use Rattle.fmp_witness.proofs.replaying.does.Goals as goal

pub returns-in-Kept-clause-taken : goal.returns-in-Kept-clause-taken
returns-in-Kept-clause-taken g c = λ _.
    record { taken = kept_taken _ (sym c.in-Kept.is ∙ c.step.ensures.effect); view = c.step.ensures.state }

pub returns-in-Done-clause-taken : goal.returns-in-Done-clause-taken
returns-in-Done-clause-taken g c = λ _.
    record { taken = done_taken _ (sym c.in-Done.is ∙ c.step.ensures.effect); view = c.step.ensures.state }
