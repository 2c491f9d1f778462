use Rattle.fmp_bisimulation.proofs.StepLaws.{step-same}
use Rattle.fmp_bisimulation.proofs.laws.events_do_the_same.Goals as goal

pub returns : goal.returns
returns g c = λ sys M n. step-same sys M n
