use Rattle.fmp_base.specs.Runs.{run}
use Rattle.fmp_base.specs.Setups.{setup}
use Rattle.fmp_bisimulation.specs.Closed.{watched}
use Rattle.fmp_bisimulation.proofs.RunLaws.{stays-there, stays-from_setup}
use Rattle.fmp_bisimulation.proofs.laws.closed_lists_miss_nothing.Goals as goal

pub returns-clause-allowed : goal.returns-clause-allowed
returns-clause-allowed g c = λ sys M n W may seen blind rule closed good v a es allowed k.
    let m = stays-there sys M n W seen blind may rule closed v a es allowed k in
    good m.world (watched W a (run sys M n v es).events) m.kept

pub returns-clause-all : goal.returns-clause-all
returns-clause-all g c = λ sys M n W seen blind closed good a es k.
    let m = stays-from_setup sys M n W seen blind closed a es k in
    good m.world (watched W a (run sys M n (setup sys M).world es).events) m.kept
