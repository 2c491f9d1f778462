use Rattle.fmp_bisimulation.specs.Alike.{Alike}
use Rattle.fmp_bisimulation.specs.Closed.{IsListed}
use Rattle.fmp_schedules.specs.Likeness.{AnyFits}
use Rattle.fmp_schedules.proofs.SilentLaws.{searched-silent}
use Rattle.fmp_schedules.proofs.laws.silent_searches_hold.Goals as goal

pub returns : goal.returns
returns g c = λ rules sys M n forbidden rest seen even h there level silent.
    searched-silent rules sys M n forbidden rest (IsListed seen) even (Alike sys)
    (λ w e. AnyFits w e) h there level silent
