use Rattle.fmp_bisimulation.proofs.SettleLaws.{settled-same}
use Rattle.fmp_bisimulation.proofs.laws.processors_settle_the_same.Goals as goal

pub returns : goal.returns
returns c sys g i h = settled-same sys g i h
