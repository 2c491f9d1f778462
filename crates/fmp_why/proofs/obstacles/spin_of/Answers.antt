use Rattle.std.proofs.Common.{◌∙◌}
use Rattle.fmp_why.proofs.CycleLemmas.{spins-end}
use Rattle.fmp_why.proofs.obstacles.spin_of.Goals as goal

pub returns-in_default : goal.returns-in_default
returns-in_default c = spins-end _ _ _ c.in_default.len_below ∙ c.loop-cpu.invariant
