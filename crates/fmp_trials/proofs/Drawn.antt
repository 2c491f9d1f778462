-- What a random run shows, one event more, and what its end adds.
use Rattle.std.proofs.Common.{◌≡◌, ◌≢◌, ◌∙◌, ℕ, List, [], ◌∷◌, ◌++◌, Option, Some, None, Bool, true, false}
use Rattle.std.proofs.Common.{◌+◌, ◌-◌, ◌<◌, ◌≤◌, ◌^◌, ap, arith, inl, inr, length, min, refl, subst, sym, take}
use Rattle.std.proofs.lemmas.Bool.{cases_order}
use Rattle.std.proofs.lemmas.List.{length_push, take-append-le, take_all}
use Rattle.std.specs.Prelude.{◌||◌, is_some}
use Rattle.fmp_base.specs.declared.events.Event.{Event}
use Rattle.fmp_base.specs.declared.events.Line.{Line}
use Rattle.fmp_base.specs.declared.events.TaskState.{TaskState}
use Rattle.fmp_base.specs.Meanings.{Meaning}
use Rattle.fmp_base.specs.Steps.{Reaction, Nothing, Did, Kept}
use Rattle.fmp_expect.specs.declared.checker.BrokenExpectation.{BrokenExpectation}
use Rattle.fmp_expect.specs.declared.checker.Watch.{Watch}
use Rattle.fmp_expect.specs.declared.expectation.Expected.{Expected}
use Rattle.fmp_expect.specs.Judges.{broken_along}
use Rattle.fmp_expect.specs.Meaning.{Told, breaks_at_end, broken_at, failure, first_broken, if_broken, outcome}
use Rattle.fmp_expect.specs.Parts.{or_else}
use Rattle.fmp_expect.specs.Runs.{last_told, rest_told, run_told, told_after}
use Rattle.fmp_expect.specs.Watches.{AreTold}
use Rattle.fmp_expect.proofs.Judging.{idle_along}
use Rattle.fmp_kernel.specs.Comings.{reaction_of, view_after_each}
use Rattle.fmp_kernel.specs.KernelViews.{KernelView, view_after}
use Rattle.fmp_monitors.specs.declared.sentence.Sentence.{Sentence}
use Rattle.fmp_monitors.specs.declared.sentence.Sentence.TheVariants as sentence
use Rattle.fmp_trials.specs.declared.random_run.RandomRun.{RandomRun}
use Rattle.fmp_trials.specs.declared.choices.Choices.{Choices}
use Rattle.fmp_trials.specs.declared.choices.RunPlan.{RunPlan}
use Rattle.fmp_trials.specs.Choices.{AreDrawn, choices_of}
use Rattle.fmp_trials.specs.Drawn.{AllHaveMet, HasMet, IsDrawn, IsRandomRun, any_of_end, broken_so_far, is_of_end}
use Rattle.fmp_trials.specs.Taking.{TakesAll}
use Rattle.fmp_trials.specs.declared.seeds.Seeds.{Seeds}
use Rattle.fmp_trials.specs.declared.shortening.FailingRun.{FailingRun}
use Rattle.fmp_trials.specs.declared.testing.FailedTrial.{FailedTrial}
use Rattle.fmp_trials.specs.declared.testing.FailingSeed.{FailingSeed}
use Rattle.fmp_trials.specs.Found.{IsFailingSeed, IsShortened}
use Rattle.fmp_trials.specs.Shortening.{IsFailing}
use Rattle.fmp_trials.specs.Trials.{Breaks, Subject, broken_by}
use Rattle.fmp_trials.specs.Verdicts.{states_in, verdict}

module _ {B C X : Type 0} (reaction : KernelView B C → X → Reaction C) where
  each_more : (k : KernelView B C) (xs : List X) (x : X)
      → view_after_each reaction k (xs ++ x ∷ [])
      ≡ view_after (view_after_each reaction k xs) (reaction (view_after_each reaction k xs) x)
  each_more k [] x = refl
  each_more k (y ∷ ys) x = each_more (view_after k (reaction k y)) ys x

  told_more : (k : KernelView B C) (xs : List X) (x : X) (told : List Told)
      → rest_told reaction k (xs ++ x ∷ []) told
      ≡ told_after (view_after_each reaction k xs) (reaction (view_after_each reaction k xs) x)
      (rest_told reaction k xs told)
  told_more k [] x told = refl
  told_more k (y ∷ ys) x told = told_more (view_after k (reaction k y)) ys x (told_after k (reaction k y) told)

module _ {B C : Type 0} (k : KernelView B C) (told : List Told) where
  told_by_done : (o : Reaction C) → (view_after k o).done ≢ k.done
      → last_told (view_after k o) told ≡ told_after k o told
  told_by_done Nothing h = absurd (h refl)
  told_by_done (Did d) h = refl
  told_by_done (Kept p w) h = absurd (h refl)

  told_stays : (o : Reaction C) → (view_after k o).done ≡ k.done → told ≡ told_after k o told
  told_stays Nothing h = refl
  told_stays (Did d) h = absurd (omega (arith, h))
  told_stays (Kept p w) h = refl

-- an event that comes to a kernel and is done, or is not
module _ {B C : Type 0} (k k' : KernelView B C) (o : Reaction C) (come : k' ≡ view_after k o) (xs : List Expected)
    (told : List Told) where
  pub told_undone : k'.done ≡ k.done → told ≡ told_after k o told
  told_undone same = told_stays k told o (sym (ap (λ (v : KernelView B C). v.done) come) ∙ same)

  pub told_done : k'.done ≢ k.done → last_told k' told ≡ told_after k o told
  told_done other =
      ap (λ (v : KernelView B C). last_told v told) come
      ∙ told_by_done k told o (subst (λ (v : KernelView B C). v.done ≢ k.done) come other)

  pub watched_undone : (ws : List Watch) → k'.done ≡ k.done → AreTold xs told ws → AreTold xs (told_after k o told) ws
  watched_undone ws same are = subst (λ (ts : List Told). AreTold xs ts ws) (told_undone same) are

  pub watched_done : (ws : List Watch) → k'.done ≢ k.done → AreTold xs (last_told k' told) ws
      → AreTold xs (told_after k o told) ws
  watched_done ws other are = subst (λ (ts : List Told). AreTold xs ts ws) (told_done other) are

  pub unbroken_undone : k'.done ≡ k.done → first_broken xs told [] k.done ≡ None
      → false ≡ is_some (first_broken xs (told_after k o told) [] k'.done)
  unbroken_undone same quiet =
      sym (ap (λ (b : Option BrokenExpectation). is_some b) (
      ap (λ (ts : List Told). first_broken xs ts [] k'.done) (sym (told_undone same))
      ∙ ap (λ (n : ℕ). first_broken xs told [] n) same ∙ quiet))

  pub broken_done : (b : Bool) → k'.done ≢ k.done → b ≡ is_some (first_broken xs (last_told k' told) [] k'.done)
      → b ≡ is_some (first_broken xs (told_after k o told) [] k'.done)
  broken_done b other is =
      is ∙ ap (λ (ts : List Told). is_some (first_broken xs ts [] k'.done)) (told_done other)

-- a kernel that has come along events from another one, and one event more
module _ {B C : Type 0} (meaning : B → Meaning C) (start k k' : KernelView B C) (es : List Event) (e : Event)
    (along : k ≡ view_after_each (reaction_of meaning) start es) (come : k' ≡ view_after k (reaction_of meaning k e))
  where
    pub along_more : k' ≡ view_after_each (reaction_of meaning) start (es ++ e ∷ [])
    along_more =
        come ∙ ap (λ (v : KernelView B C). view_after v (reaction_of meaning v e)) along
        ∙ sym (each_more (reaction_of meaning) start es e)

    pub run_more : told_after k (reaction_of meaning k e) (run_told (reaction_of meaning) start es)
        ≡ run_told (reaction_of meaning) start (es ++ e ∷ [])
    run_more =
        ap
        (λ (v : KernelView B C). told_after v (reaction_of meaning v e) (run_told (reaction_of meaning) start es))
        along
        ∙ sym (told_more (reaction_of meaning) start es e (last_told start []))

    pub quiet_here : (xs : List Expected) → broken_so_far meaning start xs es ≡ None
        → first_broken xs (run_told (reaction_of meaning) start es) [] k.done ≡ None
    quiet_here xs quiet =
        ap (λ (v : KernelView B C). first_broken xs (run_told (reaction_of meaning) start es) [] v.done) along ∙ quiet

    pub broken_more : (xs : List Expected)
        → first_broken xs (told_after k (reaction_of meaning k e) (run_told (reaction_of meaning) start es)) [] k'.done
        ≡ broken_so_far meaning start xs (es ++ e ∷ [])
    broken_more xs =
        ap (λ (ts : List Told). first_broken xs ts [] k'.done) run_more
        ∙ ap (λ (v : KernelView B C). first_broken xs (run_told (reaction_of meaning) start (es ++ e ∷ [])) [] v.done)
        along_more

not_some : {A : Type 0} (o : Option A) → is_some o ≡ false → o ≡ None
not_some None h = refl
not_some (Some x) h = absurd (cc)

some_not_none : {A : Type 0} (o : Option A) → is_some o ≡ true → o ≢ None
some_not_none None is = λ _. absurd (cc)
some_not_none (Some x) is = λ none. absurd (cc)

module _ {B C : Type 0} (meaning : B → Meaning C) (start : KernelView B C) (xs : List Expected) where
  pub none_broken : (es steps : List Event) (b : Bool) → steps ≡ es → b ≡ false
      → b ≡ is_some (broken_so_far meaning start xs es) → broken_so_far meaning start xs steps ≡ None
  none_broken es steps b same h is =
      ap (broken_so_far meaning start xs) same ∙ not_some (broken_so_far meaning start xs es) (sym is ∙ h)

  -- no run before this number of events breaks an expectation, nor does one of this number
  pub unbroken_more : (es : List Event) (e : Event)
      → ((n : ℕ) → n < length es → broken_so_far meaning start xs (take n es) ≡ None)
      → broken_so_far meaning start xs es ≡ None → (n : ℕ) → n < length (es ++ e ∷ [])
      → broken_so_far meaning start xs (take n (es ++ e ∷ [])) ≡ None
  unbroken_more es e before quiet n few =
      let within : n ≤ length es = omega (arith, few, length_push es e) in
      ap (broken_so_far meaning start xs) (take-append-le n es (e ∷ []) within)
      ∙ elim (cases_order n (length es)) [
        | inl same ↦ ap (λ (m : ℕ). broken_so_far meaning start xs (take m es)) same
            ∙ ap (broken_so_far meaning start xs) (take_all (length es) es (omega arith)) ∙ quiet
        | inr o ↦ elim o [ inl below ↦ before n below | inr above ↦ absurd (omega (arith, within, above)) ]
      ]

  module _ (c : Choices) (es : List Event) (run : RandomRun) (b : Bool) (same : run.steps.items ≡ es)
      (drawn : AreDrawn meaning start c es) (taken : TakesAll meaning start es)
      (few : length es ≤ min c.plan.events (2 ^ 20))
      (unbroken : (n : ℕ) → n < length es → broken_so_far meaning start xs (take n es) ≡ None)
      (is : b ≡ is_some (broken_so_far meaning start xs es)) where
    made : (broken_so_far meaning start xs es ≡ None → length es ≡ min c.plan.events (2 ^ 20)) → run.is_broken ≡ b
        → IsDrawn meaning start xs c run
    made whole broken =
        record {
          is =
              subst (λ (ys : List Event). IsRandomRun meaning start xs c ys) (sym same)
              (record { drawn = drawn; taken = taken; few = few; unbroken = unbroken; whole = whole });
          broken =
              broken ∙ is ∙ ap (λ (ys : List Event). is_some (broken_so_far meaning start xs ys)) (sym same);
        }

    -- a run that breaks one
    pub some_broken : run.is_broken ≡ true → b ≡ true → IsDrawn meaning start xs c run
    some_broken broken broke =
        made
        (λ none. absurd (some_not_none (broken_so_far meaning start xs es) (sym is ∙ broke) none))
        (broken ∙ sym broke)

    -- one that is over
    pub none_broken_yet : run.is_broken ≡ false → b ≡ false → length es ≡ min c.plan.events (2 ^ 20)
        → IsDrawn meaning start xs c run
    none_broken_yet broken broke whole = made (λ _. whole) (broken ∙ sym broke)

or_first : (a b : Bool) → (a || b) ≡ false → a ≡ false
or_first true b h = h
or_first false b h = refl

or_second : (a b : Bool) → (a || b) ≡ false → b ≡ false
or_second true b h = absurd (cc)
or_second false b h = h

-- what its end adds to a run
end_adds : (e : Sentence) → is_of_end e ≡ false → (states : List TaskState)
    → breaks_at_end e [] ≡ breaks_at_end e states
end_adds (sentence.Never h) is states = refl
end_adds (sentence.Before a b) is states = refl
end_adds (sentence.NeverAfter h a b) is states = refl
end_adds (sentence.Within r n t) is states = refl
end_adds (sentence.OneAtATime a b) is states = refl
end_adds (sentence.Always c) is states = refl
end_adds (sentence.Rests t) is states = refl
end_adds (sentence.End x t) is states = absurd (cc)

outcome_at_end : (e : Sentence) → is_of_end e ≡ false → (told : List Told) (states : List TaskState) (n : ℕ)
    → outcome e told [] n ≡ outcome e told states n
outcome_at_end e endless told states n = ap (λ b. or_else (failure e told) (if_broken b n)) (end_adds e endless states)

pub broken_at_end : (xs : List Expected) → any_of_end xs ≡ false → (told : List Told) (states : List TaskState) (n : ℕ)
    → first_broken xs told [] n ≡ first_broken xs told states n
broken_at_end [] endless told states n = refl
broken_at_end (x ∷ xs) endless told states n =
    ap (λ (o : Option ℕ). broken_at x o (first_broken xs told [] n))
    (outcome_at_end x.sentence (or_first (is_of_end x.sentence) (any_of_end xs) endless) told states n)
    ∙ ap (λ (b : Option BrokenExpectation). broken_at x (outcome x.sentence told states n) b)
    (broken_at_end xs (or_second (is_of_end x.sentence) (any_of_end xs) endless) told states n)

first_none : {A : Type 0} (a b : Option A) → or_else a b ≡ None → a ≡ None
first_none None b h = refl
first_none (Some x) b h = absurd (cc)

module _ {B C J : Type 0} (meaning : B → Meaning C) (breaks : Breaks B C J) (s : Subject B C J) (plan : RunPlan)
    (seed : ℕ) (run : RandomRun) (drawn : IsDrawn meaning s.start s.expected (choices_of plan seed) run)
    (endless : any_of_end s.expected ≡ false) where
  abbrev shown : Option BrokenExpectation
  shown = verdict (reaction_of meaning) s.start run.steps.items s.expected

  abbrev judged : Option BrokenExpectation
  judged = broken_along (breaks s.judge) (reaction_of meaning) s.start run.steps.items

  same_broken : broken_so_far meaning s.start s.expected run.steps.items ≡ shown
  same_broken =
      let last : KernelView B C = view_after_each (reaction_of meaning) s.start run.steps.items in
      broken_at_end s.expected endless (run_told (reaction_of meaning) s.start run.steps.items) (states_in last)
      last.done

  pub met_if_passed : broken_by meaning breaks s run.steps.items ≡ None → HasMet meaning breaks s plan seed
  met_if_passed passed =
      record {
        steps = run.steps.items;
        run = drawn.is;
        whole = drawn.is.whole (same_broken ∙ first_none shown judged passed);
        met = passed;
      }

  pub met_if_quiet : run.is_broken ≡ false → ((k : KernelView B C) → (l : Line) → breaks s.judge k l ≡ None)
      → HasMet meaning breaks s plan seed
  met_if_quiet quiet idle =
      met_if_passed
      (ap (λ (o : Option BrokenExpectation). or_else o judged)
      (sym same_broken
      ∙ not_some (broken_so_far meaning s.start s.expected run.steps.items) (sym drawn.broken ∙ quiet))
      ∙ idle_along (breaks s.judge) idle (reaction_of meaning) s.start run.steps.items)

-- the runs of seeds, and of one more
module _ {B C J : Type 0} (meaning : B → Meaning C) (breaks : Breaks B C J) (s : Subject B C J) (plan : RunPlan) where
  pub none_met : (before last : ℕ) → last ≤ before → AllHaveMet meaning breaks s plan before last
  none_met before last none = λ seed after within. absurd (omega (arith, none, after, within))

  pub one_more_met : (before last : ℕ) → AllHaveMet meaning breaks s plan before last
      → HasMet meaning breaks s plan (last + 1) → AllHaveMet meaning breaks s plan before (last + 1)
  one_more_met before last all one = λ seed after within. elim (cases_order seed (last + 1)) [
    | inl same ↦ subst (λ (n : ℕ). HasMet meaning breaks s plan n) (sym same) one
    | inr o ↦ elim o [
      | inl below ↦ all seed after (omega (arith, below))
      | inr above ↦ absurd (omega (arith, within, above))
    ]
  ]

  one_before : (n : ℕ) → n ≡ n + 1 - 1
  one_before n = omega arith

  pub with_seed : (seeds : Seeds) (before : ℕ) (run : FailingRun) → seeds.before ≤ before → before < seeds.last
      → IsFailing meaning breaks s run
      → IsRandomRun meaning s.start s.expected (choices_of plan (before + 1)) run.steps.items
      → (any_of_end s.expected ≡ false → AllHaveMet meaning breaks s plan seeds.before before)
      → IsFailingSeed meaning breaks s plan seeds (record { seed = before + 1; run = run })
  with_seed seeds before run low high fails is first =
      record {
        fails = fails;
        run = is;
        after = omega (arith, low);
        last = omega (arith, high);
        first = λ endless. subst (λ (n : ℕ). AllHaveMet meaning breaks s plan seeds.before n) (one_before before)
            (first endless);
      }

-- the same on another bench
module _ {B C J : Type 0} (meaning : B → Meaning C) (breaks : Breaks B C J) (s t : Subject B C J) (same : t ≡ s) where
  pub fails_there : (run : FailingRun) → IsFailing meaning breaks t run → IsFailing meaning breaks s run
  fails_there run h = subst (λ (x : Subject B C J). IsFailing meaning breaks x run) same h

  pub fails_back : (run : FailingRun) → IsFailing meaning breaks s run → IsFailing meaning breaks t run
  fails_back run h = subst (λ (x : Subject B C J). IsFailing meaning breaks x run) (sym same) h

  pub shortened_there : (f : FailingSeed) (r : FailedTrial) → IsShortened meaning breaks t f r
      → IsShortened meaning breaks s f r
  shortened_there f r h = subst (λ (x : Subject B C J). IsShortened meaning breaks x f r) same h

  pub met_there : (plan : RunPlan) (seed : ℕ) → HasMet meaning breaks t plan seed → HasMet meaning breaks s plan seed
  met_there plan seed h = subst (λ (x : Subject B C J). HasMet meaning breaks x plan seed) same h

  pub run_there : (c : Choices) (es : List Event) → IsRandomRun meaning t.start t.expected c es
      → IsRandomRun meaning s.start s.expected c es
  run_there c es h = subst (λ (x : Subject B C J). IsRandomRun meaning x.start x.expected c es) same h
