use Rattle.std.proofs.Common.{◌≡◌, ◌∙◌, ◌+◌, ◌≤◌, ℕ, arith, subst, sym}
use Rattle.fmp_looking.specs.Covered.{IsRunOf, seen_at}
use Rattle.fmp_looking.proofs.TrialRuns.{as_many, none_made, one_made, run_of_trials}
use Rattle.fmp_looking.proofs.trying.seen_on.Goals as goal

pub loop-made-init : goal.loop-made-init
loop-made-init c = (
  c.requires,
  none_made (IsRunOf c.args.trials.now) c.args.positions.now c.args.trials.now.opened.image.now
      c.args.trials.now.opened.bound c.args.seeds.before (seen_at c.args.positions.now c.none-seen.result)
      (c.none-seen.ensures c.args.positions.now),
)

pub loop-made-preserved : goal.loop-made-preserved
loop-made-preserved c =
    let trials = c.args.trials.now in (
      c.random_steps.ensures.same ∙ c.loop-made.invariant.0,
      one_made (IsRunOf trials) c.args.positions.now trials.opened.image.now trials.opened.bound c.args.seeds.before
          c.loop-made.made (seen_at c.args.positions.now c.loop-made.seen)
          (seen_at c.args.positions.now c.in_ok-seen.seen) c.deref.result.now c.loop-made.invariant.1
          (subst (IsRunOf trials (c.args.seeds.before + c.loop-made.made + 1)) (sym c.deref.ensures.value)
          (run_of_trials trials c.loop-made.bench (c.args.seeds.before + c.loop-made.made + 1)
          c.in_ok-steps.steps.items c.loop-made.invariant.0 c.in_ok-steps.ensures.run)) c.in_ok-seen.ensures,
    )

made : (k end n : ℕ) → end ≤ k → k ≤ end → end ≡ n → k ≡ n
made k end n after before is = omega (arith, after, before, is)

pub returns : goal.returns
returns c =
    as_many (IsRunOf c.args.trials.now) c.args.positions.now c.args.trials.now.opened.image.now
    c.args.trials.now.opened.bound c.args.seeds.before _ _ (seen_at c.args.positions.now c.loop-made.seen)
    (made _ _ _ c.loop-made-test.false c.loop-made.auto.made-end c.count-made-end.ensures) c.loop-made.invariant.1
