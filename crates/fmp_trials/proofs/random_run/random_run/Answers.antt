use Rattle.std.proofs.Common.{◌≡◌, ◌∙◌, ℕ, ◌<◌, ◌≤◌, ◌^◌, ◌++◌, ◌∷◌, [], List, None, ap, arith, length, min, refl}
use Rattle.std.proofs.Common.{subst, sym, take, true}
use Rattle.std.specs.Prelude.{is_some}
use Rattle.std.proofs.lemmas.List.{length_push}
use Rattle.fmp_base.specs.declared.events.Event.{Event}
use Rattle.fmp_expect.specs.Meaning.{Told}
use Rattle.fmp_expect.specs.Runs.{run_told}
use Rattle.fmp_expect.specs.Watches.{AreTold}
use Rattle.fmp_kernel.specs.Comings.{reaction_of, view_after_each}
use Rattle.fmp_trials.specs.declared.random_run.RandomRun.{RandomRun}
use Rattle.fmp_trials.proofs.Besides.{beside_after, beside_both, taken_after}
use Rattle.fmp_trials.specs.Choices.{AreDrawn}
use Rattle.fmp_trials.specs.Drawn.{broken_so_far}
use Rattle.fmp_trials.proofs.Choosing.{choices_after, choices_more, drawn_more}
use Rattle.fmp_trials.proofs.Drawn.{along_more, broken_more, none_broken, quiet_here, run_more, some_broken}
use Rattle.fmp_trials.proofs.Drawn.{unbroken_more}
use Rattle.fmp_trials.proofs.Taken.{all_more}
use Rattle.fmp_trials.specs.Taking.{TakesAll}
use Rattle.fmp_trials.proofs.random_run.random_run.Goals as goal

pub loop-turn-preserved : goal.loop-turn-preserved
loop-turn-preserved g c =
    let meaning = g.B.Body.meaning in
    let start = c.args.kernel.now in
    let k = c.loop-turn.kernel in
    let k' = c.judged_next-e.new.kernel in
    let es : List Event = c.loop-turn.steps.items in
    let e : Event = c.judged_next-e.result.0 in
    let items = c.in_ok-push.ensures.items in
    let along = c.loop-turn.invariant.along in
    let come = c.judged_next-e.ensures.come.view in
    let more = all_more meaning start k es e along c.loop-turn.invariant.all_taken c.judged_next-e.ensures.come.taken in
    let so_far = run_told (reaction_of meaning) start es in
    record {
      taken = omega (arith, c.loop-turn.invariant.taken, taken_after k k' (reaction_of meaning k e) come);
      count = omega (arith, c.loop-turn.invariant.count, c.in_ok-push.ensures.len);
      beside = beside_both start k k' c.loop-turn.invariant.beside (beside_after k k' (reaction_of meaning k e) come);
      all_taken = subst (λ (xs : List Event). TakesAll meaning start xs) (sym items) more;
      drawn =
          subst (λ (xs : List Event). AreDrawn meaning start c.args.choices.now xs) (sym items)
          (drawn_more meaning start k c.args.choices.now c.loop-turn.choices c.judged_next-e.new.choices es e along
          c.loop-turn.invariant.choices c.judged_next-e.ensures.next c.loop-turn.invariant.drawn);
      choices =
          choices_more meaning start k c.args.choices.now c.loop-turn.choices c.judged_next-e.new.choices es e along
          c.loop-turn.invariant.choices c.judged_next-e.ensures.next
          ∙ ap (λ (xs : List Event). choices_after meaning start c.args.choices.now xs) (sym items);
      unbroken = λ xs are.
          subst
          (λ (ys : List Event). (n : ℕ) → n < length ys → broken_so_far meaning start xs (take n ys) ≡ None)
          (sym items)
          (unbroken_more meaning start xs es e (c.loop-turn.invariant.unbroken xs are)
          (c.loop-turn.invariant.quiet xs are));
      along =
          along_more meaning start k k' es e along come
          ∙ ap (λ (xs : List Event). view_after_each (reaction_of meaning) start xs) (sym items);
      told = λ xs are.
          subst (λ (ts : List Told). AreTold xs ts c.judged_next-e.new.checker)
          (run_more meaning start k k' es e along come
          ∙ ap (λ (ys : List Event). run_told (reaction_of meaning) start ys) (sym items))
          (c.judged_next-e.ensures.told xs so_far (c.loop-turn.invariant.told xs are));
      quiet = λ xs are.
          none_broken meaning start xs (es ++ e ∷ []) c.push.new.self.items c.judged_next-e.result.1
          items c.if-broken.false
          (c.judged_next-e.ensures.broken xs so_far (c.loop-turn.invariant.told xs are)
          (quiet_here meaning start k k' es e along come xs (c.loop-turn.invariant.quiet xs are))
          ∙ ap is_some (broken_more meaning start k k' es e along come xs));
    }

pub returns-then-broken-clause-drawn : goal.returns-then-broken-clause-drawn
returns-then-broken-clause-drawn g c = λ xs are.
    let meaning = g.B.Body.meaning in
    let start = c.args.kernel.now in
    let k = c.loop-turn.kernel in
    let k' = c.judged_next-e.new.kernel in
    let es : List Event = c.loop-turn.steps.items in
    let e : Event = c.judged_next-e.result.0 in
    let along = c.loop-turn.invariant.along in
    let come = c.judged_next-e.ensures.come.view in
    let more = all_more meaning start k es e along c.loop-turn.invariant.all_taken c.judged_next-e.ensures.come.taken in
    let so_far = run_told (reaction_of meaning) start es in
    let run : RandomRun = record { steps = c.push.new.self; is_broken = true } in
    let few : length (es ++ e ∷ []) ≤ min c.args.choices.now.plan.events (2 ^ 20) =
    omega (arith, length_push es e, c.loop-turn.invariant.count, c.loop-turn-test.true, c.min-turn-end.ensures) in
    some_broken meaning start xs c.args.choices.now (es ++ e ∷ []) run c.judged_next-e.result.1
    c.in_ok-push.ensures.items
    (drawn_more meaning start k c.args.choices.now c.loop-turn.choices c.judged_next-e.new.choices es e along
    c.loop-turn.invariant.choices c.judged_next-e.ensures.next c.loop-turn.invariant.drawn)
    more few
    (unbroken_more meaning start xs es e (c.loop-turn.invariant.unbroken xs are) (c.loop-turn.invariant.quiet xs are))
    (c.judged_next-e.ensures.broken xs so_far (c.loop-turn.invariant.told xs are)
    (quiet_here meaning start k k' es e along come xs (c.loop-turn.invariant.quiet xs are))
    ∙ ap is_some (broken_more meaning start k k' es e along come xs))
    refl c.if-broken.true

pub returns-in_err-push-clause-beside : goal.returns-in_err-push-clause-beside
returns-in_err-push-clause-beside g c =
    let k = c.loop-turn.kernel in
    beside_both c.args.kernel.now k c.judged_next-e.new.kernel c.loop-turn.invariant.beside
    (beside_after k c.judged_next-e.new.kernel (reaction_of g.B.Body.meaning k c.judged_next-e.result.0)
    c.judged_next-e.ensures.come.view)

pub returns-then-broken-clause-beside : goal.returns-then-broken-clause-beside
returns-then-broken-clause-beside g c =
    let k = c.loop-turn.kernel in
    beside_both c.args.kernel.now k c.judged_next-e.new.kernel c.loop-turn.invariant.beside
    (beside_after k c.judged_next-e.new.kernel (reaction_of g.B.Body.meaning k c.judged_next-e.result.0)
    c.judged_next-e.ensures.come.view)
