use Rattle.std.proofs.Common.{◌≡◌, ◌∙◌, ◌+◌, ◌≤◌, ℕ, arith, subst, sym}
use Rattle.fmp_looking.specs.Covered.{IsRunOf}
use Rattle.fmp_looking.proofs.TestAnswers.{as_many, none_answered, one_answered}
use Rattle.fmp_looking.proofs.TrialRuns.{run_of_trials}
use Rattle.fmp_looking.proofs.test_refusals.answers_on.Goals as goal

pub loop-made-init : goal.loop-made-init
loop-made-init c = (
  c.requires,
  none_answered (IsRunOf c.args.trials.now) c.args.trials.now.opened.image.now c.args.trials.now.opened.bound
      c.new-answers.result.items c.new-answers.ensures.items,
)

pub loop-made-preserved : goal.loop-made-preserved
loop-made-preserved c =
    let trials = c.args.trials.now in (
      c.random_steps.ensures.same ∙ c.loop-made.invariant.0,
      one_answered (IsRunOf trials) trials.opened.image.now trials.opened.bound c.loop-made.made
          c.loop-made.answers.items c.deref-in-loop-made.result.now c.add_answers.new.answers.items c.deref.result.now
          c.loop-made.invariant.1
          (subst (IsRunOf trials (c.loop-made.made + 1)) (sym c.deref.ensures.value)
          (run_of_trials trials c.loop-made.bench (c.loop-made.made + 1) c.in_ok-steps.steps.items
          c.loop-made.invariant.0 c.in_ok-steps.ensures.run))
          (c.deref-in-loop-made.ensures.value ∙ c.in_ok-more.ensures) c.in_ok-add_answers.ensures,
    )

made : (k end : ℕ) → end ≤ k → k ≤ end → k ≡ end
made k end after before = omega (arith, after, before)

pub returns : goal.returns
returns c =
    as_many (IsRunOf c.args.trials.now) c.args.trials.now.opened.image.now c.args.trials.now.opened.bound _ _
    c.loop-made.answers.items (made _ _ c.loop-made-test.false c.loop-made.auto.made-end) c.loop-made.invariant.1
