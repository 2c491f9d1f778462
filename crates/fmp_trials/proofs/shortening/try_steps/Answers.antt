use Rattle.std.proofs.Common.{◌∙◌, List, ap}
use Rattle.fmp_base.specs.declared.events.Event.{Event}
use Rattle.fmp_trials.specs.Trials.{broken_by}
use Rattle.fmp_trials.proofs.Attempts.{failing_after, failing_there, tried_after, tried_there}
use Rattle.fmp_trials.proofs.shortening.try_steps.Goals as goal

pub returns-clause-failing : goal.returns-clause-failing
returns-clause-failing g c =
    let meaning = g.B.Body.meaning in
    let breaks = g.J.LineJudge.breaks in
    let s = c.args.bench.now in
    failing_there meaning breaks s c.verdict.new.self c.take.new.self c.verdict.ensures.same
    (failing_after meaning breaks s c.args.run.now c.take.new.self c.saturating_sub-run-2.result
    c.args.steps.items _ c.take.result c.requires.failing c.requires.few
    (c.in_ok-verdict.ensures.verdict
    ∙ ap (λ (es : List Event). broken_by meaning breaks s es) c.deref.ensures.value)
    c.take.ensures.taken)

pub returns-clause-tried : goal.returns-clause-tried
returns-clause-tried g c =
    let meaning = g.B.Body.meaning in
    let breaks = g.J.LineJudge.breaks in
    let s = c.args.bench.now in
    tried_there meaning breaks s c.verdict.new.self c.args.run.now c.take.new.self
    c.args.steps.items c.take.result c.verdict.ensures.same
    (tried_after meaning breaks s c.args.run.now c.take.new.self c.saturating_sub-run-2.result
    c.args.steps.items _ c.take.result
    (c.in_ok-verdict.ensures.verdict
    ∙ ap (λ (es : List Event). broken_by meaning breaks s es) c.deref.ensures.value)
    c.take.ensures.taken)
