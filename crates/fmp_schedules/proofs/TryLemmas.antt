-- Each event of a system is tried.
use Rattle.std.proofs.Common.{All, ◌≡◌, ◌+◌, ◌<◌, ◌≤◌, ◌⊎◌, inl, inr, ℕ, zero, suc, List, [], ◌∷◌, ◌++◌, Bool, true}
use Rattle.std.proofs.Common.{false, Some, Contains, cond, filter, if◌then◌else◌, is_some, map, nat_eq, refl, sym, ◌∙◌}
use Rattle.std.proofs.Common.{ap, append_assoc, length, subst, arith}
use Rattle.std.proofs.lemmas.Bool.{eqb-true, ltb-true}
use Rattle.std.proofs.lemmas.List.Elements.{All-append, All-cons, All-contains, All-filter, All-from_get_or, All-map}
use Rattle.std.proofs.lemmas.List.Elements.{Contains-append_cases, Contains-append_left, Contains-append_right}
use Rattle.std.proofs.lemmas.List.FromFn.{filter_of_map_range_with_len_more, get_or-map-range_with_len}
use Rattle.std.proofs.lemmas.List.FromFn.{get_or-range_with_len, length-map-range_with_len, length-range_with_len}
use Rattle.std.proofs.lemmas.List.FromFn.{map-range_with_len_more}
use Rattle.std.specs.List.{AllByRecursion, range_with_len}
use Rattle.fmp_base.specs.declared.events.Event.{Event}
use Rattle.fmp_base.specs.declared.events.Event.TheVariants as event
use Rattle.fmp_base.specs.declared.systems.InterruptConfig.{InterruptConfig}
use Rattle.fmp_base.specs.Ranges.{InterruptInRange, IsInRange}
use Rattle.fmp_base.specs.Systems.{SystemTables, defined_for}
use Rattle.fmp_schedules.specs.Tries.{all_tries, requests, runs}
use Rattle.fmp_schedules.specs.Tried.{is_event_of}

-- one processor more
pub runs-more : (processors : ℕ) → runs (processors + 1) ≡ runs processors ++ event.Run (processors + 1) ∷ []
runs-more processors = map-range_with_len_more (λ p. event.Run p) 1 processors (processors + 1) (omega arith)

has-request : (sys : SystemTables) (i : ℕ) → is_event_of sys (event.Int (i + 1))
    ≡ is_some (defined_for (i + 1) sys.interrupts)
has-request sys i =
    let next : i + 1 ≡ suc i = omega arith in
    ap (λ (n : ℕ). is_event_of sys (event.Int n)) next

pub no-requests : (sys : SystemTables) → requests sys 0 ≡ []
unfolding requests
no-requests sys = refl

-- one interrupt more
pub requests-more : (sys : SystemTables) (i : ℕ) (has : Bool) → has ≡ is_some (defined_for (i + 1) sys.interrupts)
    → requests sys (i + 1) ≡ requests sys i ++ cond has (event.Int (i + 1) ∷ []) []
unfolding requests
requests-more sys i has is =
    filter_of_map_range_with_len_more (λ e. is_event_of sys e) (λ n. event.Int n) 1 i (i + 1) (omega arith)
    ∙ ap (λ (b : Bool). requests sys i ++ cond b (event.Int (i + 1) ∷ []) []) (has-request sys i ∙ sym is)

-- the requests so far behind other events, and the next one
pub requests-added : (sys : SystemTables) (i : ℕ) (has : Bool) (before old new : List Event)
    → has ≡ is_some (defined_for (i + 1) sys.interrupts) → old ≡ before ++ requests sys i
    → new ≡ old ++ cond has (event.Int (i + 1) ∷ []) [] → new ≡ before ++ requests sys (i + 1)
requests-added sys i has before old new is so added =
    added ∙ ap (λ (es : List Event). es ++ cond has (event.Int (i + 1) ∷ []) []) so
    ∙ append_assoc before (requests sys i) (cond has (event.Int (i + 1) ∷ []) [])
    ∙ ap (λ (es : List Event). before ++ es) (sym (requests-more sys i has is))

-- a number's event is among those of the numbers from 1 on
among : (f : ℕ → Event) (i n number : ℕ) → i < n → 1 + i ≡ number → Contains (map f (range_with_len 1 n)) (f number)
among f i n number lt is =
    let long : length (map f (range_with_len 1 n)) ≡ n = length-map-range_with_len f 1 n in
    (i, omega (arith, long), get_or-map-range_with_len f 1 n i number (f number) lt is)

module _ {X : Type 0} (test : X → Bool) (x : X) (passes : test x ≡ true) where
  here : (y : X) → Contains (y ∷ []) x → y ≡ x
  here y (zero, lt, is) = is
  here y (suc k, lt, is) = absurd (omega (arith, lt))

  -- what passes a test is kept
  kept : (xs : List X) → Contains xs x → Contains (filter test xs) x
  kept [] (k, lt, is) = absurd (omega (arith, lt))
  kept (y ∷ ys) has = by_test (test y) refl (Contains-append_cases (y ∷ []) ys x has) (λ h. kept ys h) where
    by_test : (b : Bool) → test y ≡ b → Contains (y ∷ []) x ⊎ Contains ys x
        → (Contains ys x → Contains (filter test ys) x)
        → Contains (cond b (y ∷ filter test ys) (filter test ys)) x
    by_test true e (inl h) rest = Contains-append_left (y ∷ []) (filter test ys) x h
    by_test true e (inr h) rest = Contains-append_right (y ∷ []) (filter test ys) x (rest h)
    by_test false e (inl h) rest = absurd (let is = here y h in cc)
    by_test false e (inr h) rest = rest h

-- the numbers of interrupts end at 32
low-number : (count number : ℕ) (rows : List InterruptConfig) → AllByRecursion (InterruptInRange count) rows
    → is_some (defined_for number rows) ≡ true → number ≤ 32
low-number count number [] each h = absurd (cc)
low-number count number (i ∷ rows) each h =
    by_test (nat_eq i.number number) refl h (λ k. low-number count number rows each.1 k) where
      by_test : (b : Bool) → nat_eq i.number number ≡ b
          → is_some (if b then Some i else defined_for number rows) ≡ true
          → (is_some (defined_for number rows) ≡ true → number ≤ 32) → number ≤ 32
      by_test true e h rest =
          let same : i.number ≡ number = eqb-true i.number number e in
          omega (arith, same, each.0.number.most)
      by_test false e h rest = rest h

-- each of a system's events is tried
pub each-tried : (sys : SystemTables) (e : Event) → IsInRange sys → is_event_of sys e ≡ true
    → Contains (all_tries sys) e
unfolding requests
each-tried sys (event.Run zero) r h = absurd (cc)
each-tried sys (event.Run (suc p)) r h =
    Contains-append_left (runs sys.processors) (event.Tick ∷ requests sys 32) (event.Run (suc p))
    (among (λ k. event.Run k) p sys.processors (suc p) (ltb-true p sys.processors h) (omega arith))
each-tried sys event.Tick r h =
    Contains-append_right (runs sys.processors) (event.Tick ∷ requests sys 32) event.Tick (0, omega arith, refl)
each-tried sys (event.Int zero) r h = absurd (cc)
each-tried sys (event.Int (suc i)) r h =
    let low : i + 1 ≤ 32 = low-number sys.processors (i + 1) sys.interrupts r.interrupts.each h in
    Contains-append_right (runs sys.processors) (event.Tick ∷ requests sys 32) (event.Int (suc i))
    (Contains-append_right (event.Tick ∷ []) (requests sys 32) (event.Int (suc i))
    (kept (λ e. is_event_of sys e) (event.Int (suc i)) h (map (λ k. event.Int k) (range_with_len 1 32))
    (among (λ k. event.Int k) i 32 (suc i) (omega (arith, low)) (omega arith))))

-- what holds of the numbers 1 to n
all-between : (P : ℕ → Type 0) (n : ℕ) → ((k : ℕ) → 1 ≤ k → k < n + 1 → P k) → All P (range_with_len 1 n)
all-between P n each =
    let long : length (range_with_len 1 n) ≡ n = length-range_with_len 1 n in
    All-from_get_or P (range_with_len 1 n) 0
    (λ i lt.
    let low : i < n = omega (arith, lt, long) in
    subst P (sym (get_or-range_with_len 1 n i 0 low)) (each (1 + i) (omega arith) (omega (arith, low))))

-- the number of a request is one of the interrupts' numbers
abbrev HasNumber : Event → Type 0
HasNumber (event.Int number) = (1 ≤ number) × (number < 33)
HasNumber _ = Unit {0}

all-numbers : (sys : SystemTables) → All HasNumber (all_tries sys)
unfolding requests
all-numbers sys =
    All-append HasNumber (runs sys.processors) (event.Tick ∷ requests sys 32)
    (All-map HasNumber (λ p. event.Run p) (range_with_len 1 sys.processors)
    (all-between (λ p. HasNumber (event.Run p)) sys.processors (λ k low high. tt)))
    (All-cons HasNumber event.Tick (requests sys 32) tt
    (All-filter (λ e. is_event_of sys e) HasNumber (map (λ i. event.Int i) (range_with_len 1 32))
    (All-map HasNumber (λ i. event.Int i) (range_with_len 1 32)
    (all-between (λ i. HasNumber (event.Int i)) 32 (λ k low high. (low, high))))))

pub number-tried : (sys : SystemTables) (number : ℕ) → Contains (all_tries sys) (event.Int number)
    → (1 ≤ number) × (number < 33)
number-tried sys number h = All-contains HasNumber (all_tries sys) (event.Int number) (all-numbers sys) h
