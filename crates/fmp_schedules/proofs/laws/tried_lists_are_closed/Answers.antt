use Rattle.fmp_bisimulation.specs.Alike.{Alike}
use Rattle.fmp_bisimulation.specs.Closed.{IsListed}
use Rattle.fmp_schedules.specs.Likeness.{AnyFits}
use Rattle.fmp_schedules.proofs.LikenessLaws.{alike-likeness}
use Rattle.fmp_schedules.proofs.TriedLaws.{tried-closed}
use Rattle.fmp_schedules.proofs.laws.tried_lists_are_closed.Goals as goal

pub returns : goal.returns
returns g c = λ sys M n W may seen blind whole tried.
    tried-closed sys M n (Alike sys) (λ w e. AnyFits w e) (alike-likeness sys M n) W may (IsListed seen) blind whole tried
