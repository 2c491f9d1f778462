use Rattle.fmp_base.specs.Steps.{step}
use Rattle.fmp_bisimulation.specs.Alike.{Alike}
use Rattle.fmp_bisimulation.specs.Closed.{IsListed}
use Rattle.fmp_bisimulation.proofs.StepLaws.{step-same}
use Rattle.fmp_bisimulation.proofs.WorldLaws.{worlds-chained}
use Rattle.fmp_schedules.proofs.HoldLaws.{closed-holds}
use Rattle.fmp_schedules.specs.Likeness.{AnyFits}
use Rattle.fmp_schedules.specs.Schedules.{may_come, watch}
use Rattle.fmp_schedules.proofs.LikenessLaws.{alike-likeness}
use Rattle.fmp_schedules.proofs.RuleLaws.{watch-blind}
use Rattle.fmp_schedules.proofs.TriedLaws.{closed-under}
use Rattle.fmp_schedules.proofs.laws.closed_lists_hold.Goals as goal

pub returns : goal.returns
returns g c = λ rules sys M n forbidden rest seen even closed first clean upheld free.
    closed-holds rules sys M n forbidden rest (IsListed seen) even (Alike sys) (λ w e. AnyFits w e)
    (alike-likeness sys M n)
    (closed-under (Alike sys) (watch rules forbidden) (worlds-chained sys) (watch-blind forbidden even rules)
    (may_come rules sys M n) (step sys M n) (step-same sys M n) (IsListed seen) closed) first clean
    upheld free
