use Rattle.fmp_bisimulation.specs.Alike.{Alike}
use Rattle.fmp_schedules.specs.Likeness.{AnyFits}
use Rattle.fmp_schedules.proofs.DeadlockLaws.{deadlock-alike}
use Rattle.fmp_schedules.proofs.LikenessLaws.{alike-likeness}
use Rattle.fmp_schedules.proofs.laws.deadlocks_are_alike.Goals as goal

pub returns : goal.returns
returns g c = λ sys M n v w rest interrupts d h.
    deadlock-alike sys M n (Alike sys) (λ w e. AnyFits w e) (alike-likeness sys M n) v w rest interrupts d h
