use Rattle.fmp_bisimulation.proofs.RunLaws.{stays-there, stays-from_setup}
use Rattle.fmp_bisimulation.proofs.laws.closed_lists_keep.Goals as goal

pub returns-clause-allowed : goal.returns-clause-allowed
returns-clause-allowed g c = λ sys M n W may seen blind rule closed v a es allowed k.
    stays-there sys M n W seen blind may rule closed v a es allowed k

pub returns-clause-all : goal.returns-clause-all
returns-clause-all g c = λ sys M n W seen blind closed a es k. stays-from_setup sys M n W seen blind closed a es k
