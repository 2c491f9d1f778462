use Rattle.std.proofs.Common.{◌∙◌, sym}
use Rattle.fmp_base.specs.declared.events.Event.TheVariants as event
use Rattle.fmp_trials.specs.Taking.{takes_in}
use Rattle.fmp_trials.proofs.Choosing.{found_here, found_later, found_nowhere, takes_there}
use Rattle.fmp_trials.proofs.random_run.run_from.Goals as goal

pub returns-then-takes-clause-first : goal.returns-then-takes-clause-first
returns-then-takes-clause-first g c =
    sym
    (sym c.loop-processor.invariant.left
    ∙ found_here (λ p. takes_in g.B.Body.meaning c.args.kernel.now (event.Run p)) c.loop-processor.processor c.args.end
    c.loop-processor-test.true
    (takes_there g.B.Body.meaning c.loop-processor.kernel c.args.kernel.now
    (event.Run c.loop-processor.processor) c.takes.result _ c.loop-processor.invariant.same
    c.takes.ensures.takes c.if-takes.true))

pub loop-processor-preserved : goal.loop-processor-preserved
loop-processor-preserved g c =
    record {
      same = c.takes.ensures.stands c.if-takes.false ∙ c.loop-processor.invariant.same;
      left =
          sym
          (found_later (λ p. takes_in g.B.Body.meaning c.args.kernel.now (event.Run p)) c.loop-processor.processor
          c.args.end c.loop-processor-test.true
          (takes_there g.B.Body.meaning c.loop-processor.kernel c.args.kernel.now
          (event.Run c.loop-processor.processor) c.takes.result _ c.loop-processor.invariant.same
          c.takes.ensures.takes c.if-takes.false))
          ∙ c.loop-processor.invariant.left;
    }

pub returns-clause-first : goal.returns-clause-first
returns-clause-first g c =
    sym
    (sym c.loop-processor.invariant.left
    ∙ found_nowhere (λ p. takes_in g.B.Body.meaning c.args.kernel.now (event.Run p)) c.loop-processor.processor
    c.args.end c.loop-processor-test.false)
