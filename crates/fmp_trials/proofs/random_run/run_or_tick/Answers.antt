use Rattle.std.proofs.Common.{◌∙◌, ℕ, Option, ap, sym}
use Rattle.fmp_base.specs.declared.events.Event.{Event}
use Rattle.fmp_base.specs.declared.events.Event.TheVariants as event
use Rattle.fmp_trials.specs.declared.choices.Choices.{Choices}
use Rattle.fmp_trials.specs.Choices.{run_or_tick}
use Rattle.fmp_trials.specs.Taking.{takes_in}
use Rattle.fmp_trials.proofs.Choosing.{run_is}
use Rattle.fmp_trials.proofs.random_run.run_or_tick.Goals as goal

pub returns-in-Some-clause-next : goal.returns-in-Some-clause-next
returns-in-Some-clause-next g c =
    let after : Choices = c.processor.new.self in
    ap (λ (x : Choices). (event.Run c.in-Some.processor, x)) c.went_on.ensures
    ∙ ap (λ (o : Option ℕ). run_or_tick o after) (sym c.in-Some.is)
    ∙ run_is (takes_in g.B.Body.meaning c.args.kernel.now) c.args.kernel.now.system.processors
    c.processor_count-processors.result c.processor.result c.args.choices.now after c.run_one.result
    c.processor_count-processors.ensures.count c.processor.ensures.turned c.processor.ensures.turn
    c.run_one.ensures.first

pub returns-in-None-clause-next : goal.returns-in-None-clause-next
returns-in-None-clause-next g c =
    let after : Choices = c.processor.new.self in
    ap (λ (e : Event). (e, after)) c.tick.ensures.tick
    ∙ ap (λ (o : Option ℕ). run_or_tick o after) (sym c.in-None.is)
    ∙ run_is (takes_in g.B.Body.meaning c.args.kernel.now) c.args.kernel.now.system.processors
    c.processor_count-processors.result c.processor.result c.args.choices.now after c.run_one.result
    c.processor_count-processors.ensures.count c.processor.ensures.turned c.processor.ensures.turn
    c.run_one.ensures.first
