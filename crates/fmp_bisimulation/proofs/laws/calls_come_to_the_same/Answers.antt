use Rattle.fmp_bisimulation.proofs.CallLaws.{called-same}
use Rattle.fmp_bisimulation.proofs.laws.calls_come_to_the_same.Goals as goal

pub returns : goal.returns
returns c sys s u h p who made = called-same sys s u h p who made
