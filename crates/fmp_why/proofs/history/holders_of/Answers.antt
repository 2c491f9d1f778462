use Rattle.std.proofs.Common.{◌∙◌}
use Rattle.fmp_why.proofs.HistoryLemmas.{holders-end}
use Rattle.fmp_why.proofs.history.holders_of.Goals as goal

pub returns-in_default : goal.returns-in_default
returns-in_default c = holders-end _ _ _ c.in_default.len_below ∙ c.loop-config.invariant
