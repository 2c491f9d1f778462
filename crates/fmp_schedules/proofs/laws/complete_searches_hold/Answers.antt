use Rattle.fmp_bisimulation.specs.Alike.{Alike}
use Rattle.fmp_bisimulation.specs.Closed.{IsListed}
use Rattle.fmp_schedules.specs.Likeness.{AnyFits}
use Rattle.fmp_schedules.proofs.HoldLaws.{searched-holds}
use Rattle.fmp_schedules.proofs.laws.complete_searches_hold.Goals as goal

pub returns : goal.returns
returns g c = λ rules sys M n forbidden rest seen even h.
    searched-holds rules sys M n forbidden rest (IsListed seen) even (Alike sys)
    (λ w e. AnyFits w e) h
