use Rattle.fmp_trials.specs.Taking.{takes_in}
use Rattle.fmp_trials.proofs.Choosing.{interrupted, uninterrupted}
use Rattle.fmp_trials.proofs.random_run.next.Goals as goal

pub returns-in-Some-clause-next : goal.returns-in-Some-clause-next
returns-in-Some-clause-next g c =
    interrupted (takes_in g.B.Body.meaning c.args.kernel.now) c.args.kernel.now.system.processors c.interrupt.result
    c.interrupt.new.choices _ c.in-Some.e c.interrupt.ensures.next c.in-Some.is

pub returns-in-None-clause-next : goal.returns-in-None-clause-next
returns-in-None-clause-next g c =
    uninterrupted g.B.Body.meaning c.interrupt.new.kernel c.args.kernel.now c.interrupt.result
    c.interrupt.new.choices _ _ c.in-None.ensures.stands c.interrupt.ensures.next c.in-None.is
    c.tick_or_run.ensures.next
