use Rattle.std.proofs.Common.{◌∙◌, ◌+◌, List, ap, arith}
use Rattle.fmp_base.specs.declared.events.Event.{Event}
use Rattle.fmp_trials.specs.Trials.{without}
use Rattle.fmp_trials.proofs.Attempts.{few_after}
use Rattle.fmp_trials.proofs.shortening.drop_single.Goals as goal

pub try_steps-requires-clause-few : goal.try_steps-requires-clause-few
try_steps-requires-clause-few g c =
    few_after g.B.Body.meaning g.J.LineJudge.breaks c.args.bench.now c.args.run.now c.in_ok-steps.steps.items
    c.args.place (c.args.place + 1) c.requires.failing (omega arith) (omega (arith, c.requires.place))
    (c.in_ok-steps.ensures
    ∙ ap (λ (es : List Event). without es c.args.place (c.args.place + 1)) c.deref.ensures.value)
