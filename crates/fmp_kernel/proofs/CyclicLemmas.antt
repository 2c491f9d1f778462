-- Where no cyclic handler is due, none becomes pending; and where the due ones have become pending, none is due.
use borrow.Author.Count.{below_more}
use Rattle.std.proofs.Common.{◌≡◌, ℕ, zero, suc, ◌+◌, ◌<◌, ◌≤◌, List, [], ◌∷◌, Option, Some, None, Bool, true, false}
use Rattle.std.proofs.Common.{length, nat_eq, refl, ap, ◌∙◌, arith, set, if◌then◌else◌}
use Rattle.std.specs.Prelude.{slice_get, is_some}
use Rattle.std.specs.List.{AllByRecursion}
use Rattle.std.proofs.Math.ListN.{length-set}
use Rattle.std.proofs.lemmas.Bool.Decides.{nat_tests}
use Rattle.fmp_base.specs.declared.systems.CyclicConfig.{CyclicConfig}
use Rattle.fmp_base.specs.Ranges.{CyclicInRange, IsInRange}
use Rattle.fmp_base.specs.States.{KernelState, Progress, places_from}
use Rattle.fmp_base.specs.Systems.{SystemTables, cyclic_config, found}
use Rattle.fmp_base.specs.Ticks.{is_due, is_pending, pended_by, cycled, cycled_by, all_cycled, with_next_due}
use Rattle.fmp_ticks.specs.Times.{first_due, first_due_from}

none-due_from : (now i : ℕ) (times : List (Option ℕ)) → first_due_from now i times ≡ None
    → (c : ℕ) → is_due now (found None (slice_get times c)) ≡ false
none-due_from now i [] h c = refl
none-due_from now i (time ∷ times) h c = by_test (is_due now time) refl h c (none-due_from now (i + 1) times) where
  by_test : (b : Bool) → is_due now time ≡ b → (if b then Some i else first_due_from now (i + 1) times) ≡ None → (c : ℕ)
      → (first_due_from now (i + 1) times ≡ None → (c : ℕ) → is_due now (found None (slice_get times c)) ≡ false)
      → is_due now (found None (slice_get (time ∷ times) c)) ≡ false
  by_test true e k c rest = cc
  by_test false e k zero rest = e
  by_test false e k (suc c) rest = rest k c

stays : (sys : SystemTables) (g : Progress) (c : ℕ) → first_due g.state.clock g.state.due_times ≡ None
    → cycled sys g c ≡ g
stays sys g c h = rw (none-due_from g.state.clock 0 g.state.due_times h c) refl

pub none_cycled : (sys : SystemTables) (g : Progress) (k n : ℕ) → first_due g.state.clock g.state.due_times ≡ None
    → all_cycled sys g (places_from k n) ≡ g
none_cycled sys g k zero h = refl
none_cycled sys g k (suc n) h =
    ap (λ (x : Progress). all_cycled sys x (places_from (k + 1) n)) (stays sys g k h) ∙ none_cycled sys g (k + 1) n h

pub none_of : (o : Option ℕ) → is_some o ≡ false → o ≡ None
none_of None h = refl
none_of (Some t) h = cc

abbrev pub due_at : KernelState → ℕ → Bool
due_at s c = is_due s.clock (found None (slice_get s.due_times c))

-- the first k cyclic handlers of s, those that were due, have become pending, which led to u: they are no longer due
pub record AreCycled (s u : KernelState) (k : ℕ) : Type 0 where
  pub tasks : u.tasks ≡ s.tasks
  pub long : length u.due_times ≡ length s.due_times
  pub passed : (c : ℕ) → c < k → due_at u c ≡ false

not_now : (now period : ℕ) → 1 ≤ period → nat_eq (now + period) now ≡ false
not_now now period l = grind (arith, nat_tests)

due-set : (now when : ℕ) (times : List (Option ℕ)) (k c : ℕ) → is_due now (Some when) ≡ false → c < k + 1
    → (c < k → is_due now (found None (slice_get times c)) ≡ false)
    → is_due now (found None (slice_get (set times k (Some when)) c)) ≡ false
due-set now when [] k c e l h = refl
due-set now when (x ∷ times) zero zero e l h = e
due-set now when (x ∷ times) zero (suc c) e l h = absurd (omega arith)
due-set now when (x ∷ times) (suc k) zero e l h = h (omega arith)
due-set now when (x ∷ times) (suc k) (suc c) e l h =
    due-set now when times k c e (omega arith) (λ m. h (omega (arith, m)))

period_some : (processors : ℕ) (d : CyclicConfig) (cs : List CyclicConfig) (c : ℕ) → 1 ≤ d.period
    → AllByRecursion (CyclicInRange processors) cs → 1 ≤ (found d (slice_get cs c)).period
period_some processors d [] c l h = l
period_some processors d (x ∷ cs) zero l h = h.0.period.least
period_some processors d (x ∷ cs) (suc c) l h = period_some processors d cs c l h.1

-- one more
pub cycled-more : (sys : SystemTables) (s : KernelState) (g : Progress) (k : ℕ) → IsInRange sys
    → AreCycled s g.state k → AreCycled s (cycled sys g k).state (k + 1)
cycled-more sys s g k range h = by_due (due_at g.state k) refl where
  some : 1 ≤ (cyclic_config sys k).period
  some =
      period_some sys.processors (cyclic_config (record sys { cyclics = [] }) 0) sys.cyclics k (omega arith)
      range.cyclics.each

  later : is_due g.state.clock (Some (g.state.clock + (cyclic_config sys k).period)) ≡ false
  later = not_now g.state.clock (cyclic_config sys k).period some

  long : length (set g.state.due_times k (Some (g.state.clock + (cyclic_config sys k).period))) ≡ length s.due_times
  long = length-set g.state.due_times k (Some (g.state.clock + (cyclic_config sys k).period)) ∙ h.long

  passed : (c : ℕ) → c < k + 1
      → is_due g.state.clock
      (found None (slice_get (set g.state.due_times k (Some (g.state.clock + (cyclic_config sys k).period))) c))
      ≡ false
  passed c l =
      due-set g.state.clock (g.state.clock + (cyclic_config sys k).period) g.state.due_times k c later l (h.passed c)

  by_pending : (b : Bool) → AreCycled s (with_next_due sys (pended_by b sys g k) k).state (k + 1)
  by_pending true =
      record {
        tasks = h.tasks;
        long = long;
        passed = passed;
      }
  by_pending false =
      record {
        tasks = h.tasks;
        long = long;
        passed = passed;
      }

  by_due : (b : Bool) → due_at g.state k ≡ b → AreCycled s (cycled_by b sys g k).state (k + 1)
  by_due true e = by_pending (is_pending g.state.pending_cyclics k)
  by_due false e =
      record { tasks = h.tasks; long = h.long; passed = below_more (λ c. due_at g.state c ≡ false) k h.passed e }

pub cycled_none : (s : KernelState) → AreCycled s s 0
cycled_none s = record { tasks = refl; long = refl; passed = λ c l. absurd (omega arith) }

none_left : (now i : ℕ) (times : List (Option ℕ))
    → ((c : ℕ) → c < length times → is_due now (found None (slice_get times c)) ≡ false)
    → first_due_from now i times ≡ None
none_left now i [] h = refl
none_left now i (time ∷ times) h =
    rw (h 0 (omega arith)) (none_left now (i + 1) times (λ c l. h (suc c) (omega (arith, l))))

-- when all have, none is due
pub none_due_cyclic : (s u : KernelState) (n : ℕ) → AreCycled s u n → length s.due_times ≡ n
    → first_due u.clock u.due_times ≡ None
none_due_cyclic s u n h e = none_left u.clock 0 u.due_times (λ c l. h.passed c (omega (arith, h.long)))
