use Rattle.fmp_bisimulation.specs.Alike.{Alike}
use Rattle.fmp_bisimulation.specs.Closed.{IsListed}
use Rattle.fmp_schedules.specs.WaysOn.{IsNoted}
use Rattle.fmp_schedules.specs.Likeness.{AnyFits}
use Rattle.fmp_schedules.proofs.WayLaws.{none-stuck}
use Rattle.fmp_schedules.proofs.laws.ways_on_leave_none_stuck.Goals as goal

pub returns : goal.returns
returns g c = λ rules sys M n forbidden rest resting seen distances even h ways.
    none-stuck rules sys M n forbidden rest (IsListed seen) even (Alike sys) (λ w e. AnyFits w e) h resting
    (λ t. IsNoted seen (distances t)) ways
