use Rattle.fmp_trials.specs.Taking.{takes_in}
use Rattle.fmp_trials.proofs.Choosing.{clock_is, run_after}
use Rattle.fmp_trials.proofs.random_run.tick_or_run.Goals as goal

pub returns-then-comes-clause-next : goal.returns-then-comes-clause-next
returns-then-comes-clause-next g c =
    clock_is (takes_in g.B.Body.meaning c.args.kernel.now) c.args.kernel.now.system.processors c.args.choices.now
    c.comes.new.self c.tick.result c.comes.result c.comes.ensures.comes c.if-comes.true c.comes.ensures.past
    c.tick.ensures.tick

pub returns-clause-next : goal.returns-clause-next
returns-clause-next g c =
    run_after (takes_in g.B.Body.meaning c.args.kernel.now) c.args.kernel.now.system.processors c.args.choices.now
    c.comes.new.self _ c.comes.result c.comes.ensures.comes c.if-comes.false c.comes.ensures.past
    c.run_or_tick.ensures.next
