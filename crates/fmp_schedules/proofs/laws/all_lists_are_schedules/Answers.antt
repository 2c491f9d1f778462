use Rattle.fmp_schedules.proofs.RuleLaws.{all-scheduled}
use Rattle.fmp_schedules.proofs.laws.all_lists_are_schedules.Goals as goal

pub returns : goal.returns
returns g c = λ rules sys M n forbidden es ticks most queued limits.
    all-scheduled rules sys M n forbidden es ticks most queued limits
