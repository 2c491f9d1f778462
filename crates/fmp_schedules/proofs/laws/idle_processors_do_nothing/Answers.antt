use Rattle.fmp_schedules.proofs.IdleLaws.{each-none, none-each}
use Rattle.fmp_schedules.proofs.laws.idle_processors_do_nothing.Goals as goal

pub returns-clause-each : goal.returns-clause-each
returns-clause-each g c = λ sys M n w processors h p from to. none-each sys M n w processors h p from to

pub returns-clause-none : goal.returns-clause-none
returns-clause-none g c = λ sys M n w processors h. each-none sys M n w processors h
