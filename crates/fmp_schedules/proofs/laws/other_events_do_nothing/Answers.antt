use Rattle.fmp_schedules.proofs.TriedLaws.{other-nothing}
use Rattle.fmp_schedules.proofs.laws.other_events_do_nothing.Goals as goal

pub returns : goal.returns
returns g c = λ sys M n w e size none. other-nothing sys M n w e size none
