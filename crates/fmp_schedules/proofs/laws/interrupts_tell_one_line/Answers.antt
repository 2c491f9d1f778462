use Rattle.fmp_schedules.proofs.EventLines.{done-counts, setup-counts}
use Rattle.fmp_schedules.proofs.laws.interrupts_tell_one_line.Goals as goal

pub returns-clause-done : goal.returns-clause-done
returns-clause-done g c = λ sys M n w e d h. done-counts sys M n w e d h

pub returns-clause-setup : goal.returns-clause-setup
returns-clause-setup g c = λ sys M. setup-counts sys M
