-- What comes next in a random run, one part after the other.
use Rattle.std.proofs.Common.{◌≡◌, ◌∙◌, ℕ, suc, ◌+◌, ◌-◌, ◌<◌, ◌≤◌, List, [], ◌∷◌, ◌++◌, Option, Some, None, Bool, true}
use Rattle.std.proofs.Common.{false, ap, arith, cond, drop, get_or, length, refl, sym}
use Rattle.std.proofs.Math.Seq.{drop-cons}
use Rattle.std.proofs.lemmas.List.{drop_all}
use Rattle.std.specs.Prelude.{◌&&◌}
use Rattle.std.specs.Option.{option_or}
use Rattle.std.specs.List.{find, range_with_len}
use Rattle.std.proofs.lemmas.List.Folds.{find-append}
use Rattle.fmp_base.specs.declared.events.Event.{Event}
use Rattle.fmp_base.specs.declared.events.Event.TheVariants as event
use Rattle.fmp_base.specs.Meanings.{Meaning}
use Rattle.fmp_kernel.specs.Comings.{reaction_of, view_after_each}
use Rattle.fmp_kernel.specs.KernelViews.{KernelView, view_after}
use Rattle.fmp_trials.specs.declared.choices.Choices.{Choices}
use Rattle.fmp_trials.specs.declared.choices.InterruptRate.{InterruptRate}
use Rattle.fmp_trials.specs.Choices.{AreDrawn, comes, event_after, in_turn, interrupt_of, next_of, past, run_of}
use Rattle.fmp_trials.specs.Choices.{run_or_tick, turned}
use Rattle.fmp_trials.specs.Taking.{takes_in}

-- numbers from one on up to an end, which is left out
module _ (takes : ℕ → Bool) where
  one_fewer : (p end : ℕ) → p < end → end - p ≡ suc (end - (p + 1))
  one_fewer p end before = omega (arith, before)

  none_left : (p end : ℕ) → end ≤ p → end - p ≡ 0
  none_left p end after = omega (arith, after)

  first_or_rest : (p end : ℕ) → p < end
      → find takes (range_with_len p (end - p))
      ≡ cond (takes p) (Some p) (find takes (range_with_len (p + 1) (end - (p + 1))))
  first_or_rest p end before = ap (λ (n : ℕ). find takes (range_with_len p n)) (one_fewer p end before)

  pub found_here : (p end : ℕ) → p < end → takes p ≡ true → find takes (range_with_len p (end - p)) ≡ Some p
  found_here p end before h =
      first_or_rest p end before
      ∙ ap (λ (b : Bool). cond b (Some p) (find takes (range_with_len (p + 1) (end - (p + 1))))) h

  pub found_later : (p end : ℕ) → p < end → takes p ≡ false
      → find takes (range_with_len p (end - p)) ≡ find takes (range_with_len (p + 1) (end - (p + 1)))
  found_later p end before h =
      first_or_rest p end before
      ∙ ap (λ (b : Bool). cond b (Some p) (find takes (range_with_len (p + 1) (end - (p + 1))))) h

  pub found_nowhere : (p end : ℕ) → end ≤ p → find takes (range_with_len p (end - p)) ≡ None
  found_nowhere p end after = ap (λ (n : ℕ). find takes (range_with_len p n)) (none_left p end after)

  pub found_first : (first last p : ℕ) (o : Option ℕ) → o ≡ find takes (range_with_len first (last + 1 - first))
      → o ≡ Some p → Some p ≡ find takes (in_turn first last)
  found_first first last p o is some =
      sym
      (find-append takes (range_with_len first (last + 1 - first)) (range_with_len 1 (first - 1))
      ∙ ap (λ (x : Option ℕ). option_or x (find takes (range_with_len 1 (first - 1)))) (sym is ∙ some))

  pub found_second : (first last : ℕ) (o q : Option ℕ) → o ≡ find takes (range_with_len first (last + 1 - first))
      → o ≡ None → q ≡ find takes (range_with_len 1 (first - 1)) → q ≡ find takes (in_turn first last)
  found_second first last o q is none there =
      there
      ∙ sym
      (find-append takes (range_with_len first (last + 1 - first)) (range_with_len 1 (first - 1))
      ∙ ap (λ (x : Option ℕ). option_or x (find takes (range_with_len 1 (first - 1)))) (sym is ∙ none))

module _ {B C : Type 0} (meaning : B → Meaning C) where
  -- whether the same kernel takes an event
  pub takes_there : (k start : KernelView B C) (e : Event) (r b : Bool) → k ≡ start → r ≡ takes_in meaning k e → r ≡ b
      → takes_in meaning start e ≡ b
  takes_there k start e r b same is h = ap (λ (v : KernelView B C). takes_in meaning v e) (sym same) ∙ sym is ∙ h

  pub found_there : (k start : KernelView B C) (o : Option ℕ) (ps : List ℕ) → k ≡ start
      → o ≡ find (λ p. takes_in meaning k (event.Run p)) ps → o ≡ find (λ p. takes_in meaning start (event.Run p)) ps
  found_there k start o ps same is =
      is ∙ ap (λ (v : KernelView B C). find (λ p. takes_in meaning v (event.Run p)) ps) same

-- the interrupts, one after the other
module _ (takes : Event → Bool) (r : InterruptRate) (rates : List InterruptRate) (c : Choices) where
  and_false : (a b : Bool) → a ≡ true → b ≡ false → (a && b) ≡ false
  and_false true b is h = h
  and_false false b is h = absurd (cc)

  not_first : (a b : Bool) → a ≡ false → (a && b) ≡ false
  not_first false b h = refl
  not_first true b h = absurd (cc)

  and_true : (a b : Bool) → a ≡ true → b ≡ true → (a && b) ≡ true
  and_true true b is h = h
  and_true false b is h = absurd (cc)

  abbrev by : Bool → Option Event × Choices
  by b = cond b (Some (event.Int r.interrupt), past c) (interrupt_of takes rates (past c))

  -- its turn has not come
  pub passed_over : comes c r.every ≡ false
      → interrupt_of takes (r ∷ rates) c ≡ interrupt_of takes rates (past c)
  passed_over h = ap by (not_first (comes c r.every) (takes (event.Int r.interrupt)) h)

  -- it does nothing
  pub does_nothing : comes c r.every ≡ true → takes (event.Int r.interrupt) ≡ false
      → interrupt_of takes (r ∷ rates) c ≡ interrupt_of takes rates (past c)
  does_nothing h k = ap by (and_false (comes c r.every) (takes (event.Int r.interrupt)) h k)

  pub it_comes : comes c r.every ≡ true → takes (event.Int r.interrupt) ≡ true
      → interrupt_of takes (r ∷ rates) c ≡ (Some (event.Int r.interrupt), past c)
  it_comes h k = ap by (and_true (comes c r.every) (takes (event.Int r.interrupt)) h k)

-- the interrupts from a place on
module _ (takes : Event → Bool) (rates : List InterruptRate) (i : ℕ) (d : InterruptRate) (c after : Choices)
    (came : Bool) (left : Option Event × Choices) (there : i < length rates)
    (so_far : interrupt_of takes (drop i rates) c ≡ left)
    (is : came ≡ comes c (get_or rates i d).every) (past_is : after ≡ past c) where
  abbrev rate : InterruptRate
  rate = get_or rates i d

  abbrev rest : List InterruptRate
  rest = drop (i + 1) rates

  one_more : (n : ℕ) → suc n ≡ n + 1
  one_more n = omega arith

  here : interrupt_of takes (rate ∷ rest) c ≡ left
  here =
      sym
      (ap (λ (rs : List InterruptRate). interrupt_of takes rs c)
      (drop-cons rates i d there ∙ ap (λ (n : ℕ). rate ∷ drop n rates) (one_more i)))
      ∙ so_far

  on : interrupt_of takes rest after ≡ interrupt_of takes rest (past c)
  on = ap (λ (x : Choices). interrupt_of takes rest x) past_is

  pub goes_past : came ≡ false → interrupt_of takes rest after ≡ left
  goes_past h = on ∙ sym (passed_over takes rate rest c (sym is ∙ h)) ∙ here

  pub goes_on : came ≡ true → takes (event.Int rate.interrupt) ≡ false → interrupt_of takes rest after ≡ left
  goes_on h k = on ∙ sym (does_nothing takes rate rest c (sym is ∙ h) k) ∙ here

  pub has_come : came ≡ true → takes (event.Int rate.interrupt) ≡ true → (Some (event.Int rate.interrupt), after) ≡ left
  has_come h k =
      ap (λ (x : Choices). (Some (event.Int rate.interrupt), x)) past_is
      ∙ sym (it_comes takes rate rest c (sym is ∙ h) k) ∙ here

pub none_comes : (takes : Event → Bool) (rates : List InterruptRate) (i : ℕ) (c : Choices)
    (left : Option Event × Choices) → length rates ≤ i → interrupt_of takes (drop i rates) c ≡ left → (None, c) ≡ left
none_comes takes rates i c left after so_far =
    sym (ap (λ (rs : List InterruptRate). interrupt_of takes rs c) (drop_all i rates after)) ∙ so_far

-- a processor, the clock, or an interrupt
module _ (takes : Event → Bool) (processors : ℕ) where
  pub run_is : (n turn : ℕ) (c0 c1 : Choices) (o : Option ℕ) → n ≡ processors → c1 ≡ turned n c0 → turn ≡ c1.turn
      → o ≡ find (λ p. takes (event.Run p)) (in_turn turn n)
      → run_or_tick o c1 ≡ run_of takes processors (turned processors c0)
  run_is n turn c0 c1 o same there is found =
      ap (λ (x : Option ℕ). run_or_tick x c1) found
      ∙ ap (λ (t : ℕ). run_or_tick (find (λ p. takes (event.Run p)) (in_turn t n)) c1) is
      ∙ ap (λ (x : Choices). run_of takes n x) there
      ∙ ap (λ (m : ℕ). run_of takes m (turned m c0)) same

  abbrev clock_by : Choices → Bool → Event × Choices
  clock_by c b = cond b (event.Tick, past c) (run_of takes processors (turned processors (past c)))

  pub clock_is : (c after : Choices) (e : Event) (r : Bool) → r ≡ comes c c.plan.tick → r ≡ true → after ≡ past c
      → e ≡ event.Tick → (e, after) ≡ event_after takes processors (None, c)
  clock_is c after e r is h there tick =
      ap (λ (x : Event). (x, after)) tick
      ∙ ap (λ (x : Choices). (event.Tick, x)) there
      ∙ sym (ap (clock_by c) (sym is ∙ h))

  pub run_after : (c after : Choices) (x : Event × Choices) (r : Bool) → r ≡ comes c c.plan.tick → r ≡ false
      → after ≡ past c → x ≡ run_of takes processors (turned processors after)
      → x ≡ event_after takes processors (None, c)
  run_after c after x r is h there run =
      run
      ∙ ap (λ (y : Choices). run_of takes processors (turned processors y)) there
      ∙ sym (ap (clock_by c) (sym is ∙ h))

  pub interrupted : (o : Option Event) (c : Choices) (x : Option Event × Choices) (e : Event) → (o, c) ≡ x → o ≡ Some e
      → (e, c) ≡ event_after takes processors x
  interrupted o c x e next is =
      ap (λ (y : Option Event × Choices). event_after takes processors y)
      (ap (λ (p : Option Event). (p, c)) (sym is) ∙ next)

module _ {B C : Type 0} (meaning : B → Meaning C) where
  pub uninterrupted : (k start : KernelView B C) (o : Option Event) (c : Choices) (x : Event × Choices)
      (y : Option Event × Choices) → k ≡ start → (o, c) ≡ y → o ≡ None
      → x ≡ event_after (takes_in meaning k) k.system.processors (None, c)
      → x ≡ event_after (takes_in meaning start) start.system.processors y
  uninterrupted k start o c x y same next none is =
      is
      ∙ ap (λ (v : KernelView B C). event_after (takes_in meaning v) v.system.processors (None, c)) same
      ∙ ap (λ (z : Option Event × Choices). event_after (takes_in meaning start) start.system.processors z)
      (ap (λ (p : Option Event). (p, c)) (sym none) ∙ next)

-- the choices after these events
module _ {B C : Type 0} (meaning : B → Meaning C) where
  abbrev pub choices_after : KernelView B C → Choices → List Event → Choices
  choices_after k c [] = c
  choices_after k c (e ∷ es) = choices_after (view_after k (reaction_of meaning k e)) (next_of meaning k c).1 es

  last_choices : (k : KernelView B C) (c : Choices) (es : List Event) (e : Event)
      → choices_after k c (es ++ e ∷ [])
      ≡ (next_of meaning (view_after_each (reaction_of meaning) k es) (choices_after k c es)).1
  last_choices k c [] e = refl
  last_choices k c (x ∷ es) e = last_choices (view_after k (reaction_of meaning k x)) (next_of meaning k c).1 es e

  one_drawn : (k : KernelView B C) (c : Choices) (es : List Event) (e : Event) → AreDrawn meaning k c es
      → e ≡ (next_of meaning (view_after_each (reaction_of meaning) k es) (choices_after k c es)).0
      → AreDrawn meaning k c (es ++ e ∷ [])
  one_drawn k c [] e all is = (is, tt)
  one_drawn k c (x ∷ es) e all is =
      (all.0, one_drawn (view_after k (reaction_of meaning k x)) (next_of meaning k c).1 es e all.1 is)

  module _ (start k : KernelView B C) (c before after : Choices) (es : List Event) (e : Event)
      (along : k ≡ view_after_each (reaction_of meaning) start es) (there : before ≡ choices_after start c es)
      (next : (e, after) ≡ next_of meaning k before) where
    abbrev next_there : Event × Choices
    next_there = next_of meaning (view_after_each (reaction_of meaning) start es) (choices_after start c es)

    next_is : (e, after) ≡ next_there
    next_is =
        next ∙ ap (λ (v : KernelView B C). next_of meaning v before) along
        ∙ ap (λ (x : Choices). next_of meaning (view_after_each (reaction_of meaning) start es) x) there

    -- one event more
    pub drawn_more : AreDrawn meaning start c es → AreDrawn meaning start c (es ++ e ∷ [])
    drawn_more all = one_drawn start c es e all (ap (λ (x : Event × Choices). x.0) next_is)

    pub choices_more : after ≡ choices_after start c (es ++ e ∷ [])
    choices_more = ap (λ (x : Event × Choices). x.1) next_is ∙ sym (last_choices start c es e)
