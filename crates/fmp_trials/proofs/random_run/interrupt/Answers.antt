use Rattle.std.proofs.Common.{◌∙◌, get_or, refl}
use Rattle.fmp_base.specs.declared.events.Event.TheVariants as event
use Rattle.fmp_trials.specs.declared.choices.InterruptRate.{InterruptRate}
use Rattle.fmp_trials.specs.Taking.{takes_in}
use Rattle.fmp_trials.proofs.Choosing.{goes_on, goes_past, has_come, none_comes, takes_there}
use Rattle.fmp_trials.proofs.random_run.interrupt.Goals as goal

abbrev no_rate : InterruptRate
no_rate = record { interrupt = 0; every = 0 }

pub loop-rate-init : goal.loop-rate-init
loop-rate-init g c = record { same = refl; left = refl }

pub loop-rate-preserved-then-not-comes : goal.loop-rate-preserved-then-not-comes
loop-rate-preserved-then-not-comes g c =
    record {
      same = c.loop-rate.invariant.same;
      left =
          goes_past (takes_in g.B.Body.meaning c.args.kernel.now) c.args.choices.now.plan.interrupts.now
          c.loop-rate.rate-index no_rate c.loop-rate.choices c.comes.new.self c.comes.result _ c.loop-rate-test.true
          c.loop-rate.invariant.left c.comes.ensures.comes c.comes.ensures.past c.if-not-comes.true;
    }

pub returns-then-takes-clause-next : goal.returns-then-takes-clause-next
returns-then-takes-clause-next g c =
    let rates = c.args.choices.now.plan.interrupts.now in
    has_come (takes_in g.B.Body.meaning c.args.kernel.now) rates
    c.loop-rate.rate-index no_rate c.loop-rate.choices c.comes.new.self c.comes.result _ c.loop-rate-test.true
    c.loop-rate.invariant.left c.comes.ensures.comes c.comes.ensures.past c.if-not-comes.false
    (takes_there g.B.Body.meaning c.loop-rate.kernel c.args.kernel.now
    (event.Int (get_or rates c.loop-rate.rate-index no_rate).interrupt) c.takes.result _
    c.loop-rate.invariant.same c.takes.ensures.takes c.if-takes.true)

pub loop-rate-preserved : goal.loop-rate-preserved
loop-rate-preserved g c =
    let rates = c.args.choices.now.plan.interrupts.now in
    record {
      same = c.takes.ensures.stands c.if-takes.false ∙ c.loop-rate.invariant.same;
      left =
          goes_on (takes_in g.B.Body.meaning c.args.kernel.now) rates
          c.loop-rate.rate-index no_rate c.loop-rate.choices c.comes.new.self c.comes.result _ c.loop-rate-test.true
          c.loop-rate.invariant.left c.comes.ensures.comes c.comes.ensures.past c.if-not-comes.false
          (takes_there g.B.Body.meaning c.loop-rate.kernel c.args.kernel.now
          (event.Int (get_or rates c.loop-rate.rate-index no_rate).interrupt) c.takes.result _
          c.loop-rate.invariant.same c.takes.ensures.takes c.if-takes.false);
    }

pub returns-clause-next : goal.returns-clause-next
returns-clause-next g c =
    none_comes (takes_in g.B.Body.meaning c.args.kernel.now) c.args.choices.now.plan.interrupts.now
    c.loop-rate.rate-index c.loop-rate.choices _ c.loop-rate-test.false c.loop-rate.invariant.left
