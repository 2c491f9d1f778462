use Rattle.fmp_base.specs.Steps.{step}
use Rattle.fmp_bisimulation.specs.Alike.{Alike}
use Rattle.fmp_bisimulation.proofs.ClosedLaws.{alike-still}
use Rattle.fmp_bisimulation.proofs.StepLaws.{step-same}
use Rattle.fmp_bisimulation.proofs.StillLaws.{run-left}
use Rattle.fmp_bisimulation.proofs.WorldLaws.{worlds-refl, worlds-sym, worlds-chained}
use Rattle.fmp_bisimulation.proofs.laws.still_worlds_stay.Goals as goal

pub returns-clause-alike : goal.returns-clause-alike
returns-clause-alike g c = λ sys M n W may blind rule v w a h still.
    alike-still (Alike sys) W (worlds-chained sys) blind (worlds-sym sys) may rule (step sys M n)
    (step-same sys M n) v w a h still

pub returns-clause-world : goal.returns-clause-world
returns-clause-world g c = λ sys M n W may blind rule w a es settled still allowed.
    (run-left (Alike sys) W (worlds-sym sys) (worlds-chained sys) blind may rule sys M n (step-same sys M n)
    w a es (worlds-refl sys w settled) still allowed).0

pub returns-clause-watch : goal.returns-clause-watch
returns-clause-watch g c = λ sys M n W may blind rule w a es settled still allowed.
    (run-left (Alike sys) W (worlds-sym sys) (worlds-chained sys) blind may rule sys M n (step-same sys M n)
    w a es (worlds-refl sys w settled) still allowed).1
