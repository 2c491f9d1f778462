use Rattle.std.proofs.Common.{refl}
use Rattle.fmp_ticks.specs.Ranks.{rank}
use Rattle.fmp_ticks.proofs.heap.rank.Goals as goal

pub returns-in-Some : goal.returns-in-Some
unfolding rank
returns-in-Some c = rw c.in-Some.is refl

pub returns-in-None : goal.returns-in-None
unfolding rank
returns-in-None c = rw c.in-None.is refl
