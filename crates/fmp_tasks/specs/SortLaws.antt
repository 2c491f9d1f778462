-- What a stable sort and a filter do to one another.
use Rattle.std.proofs.Common.{◌≡◌, ℕ, ◌≤◌, List, [], ◌∷◌, ◌++◌, Bool, true, false, cond, nat_le, refl, ap, ◌∙◌, sym}
use Rattle.std.proofs.Common.{arith}
use Rattle.std.specs.List.{filter}
use Rattle.std.proofs.lemmas.Bool.Decides.{nat_tests}
use Rattle.fmp_base.specs.MailboxCalls.{behind_equals}
use Rattle.fmp_base.specs.Queues.{placed, sorted}

behind_placed-none : (f : ℕ → ℕ) (u t : ℕ) → placed f u (behind_equals f t []) ≡ behind_equals f t (placed f u [])
behind_placed-none f u t = grind (arith, nat_tests)

behind_placed-step : (f : ℕ → ℕ) (u t v : ℕ) (vs : List ℕ)
    → placed f u (behind_equals f t vs) ≡ behind_equals f t (placed f u vs)
    → placed f u (behind_equals f t (v ∷ vs)) ≡ behind_equals f t (placed f u (v ∷ vs))
behind_placed-step f u t v vs ih = grind (arith, nat_tests)

pub behind_placed : (f : ℕ → ℕ) (u t : ℕ) (l : List ℕ)
    → placed f u (behind_equals f t l) ≡ behind_equals f t (placed f u l)
behind_placed f u t [] = behind_placed-none f u t
behind_placed f u t (v ∷ vs) = behind_placed-step f u t v vs (behind_placed f u t vs)

-- a sort puts what comes last after those that are at least as urgent
pub sorted-push : (f : ℕ → ℕ) (t : ℕ) (l : List ℕ) → sorted f (l ++ t ∷ []) ≡ behind_equals f t (sorted f l)
sorted-push f t [] = refl
sorted-push f t (u ∷ us) = ap (placed f u) (sorted-push f t us) ∙ behind_placed f u t (sorted f us)

-- each is at least n
abbrev pub AtLeast : (ℕ → ℕ) → ℕ → List ℕ → Type 0
AtLeast f n [] = Unit {0}
AtLeast f n (u ∷ us) = (n ≤ f u) × AtLeast f n us

abbrev pub Sorted : (ℕ → ℕ) → List ℕ → Type 0
Sorted f [] = Unit {0}
Sorted f (u ∷ us) = AtLeast f (f u) us × Sorted f us

AtLeast-lower : (f : ℕ → ℕ) (m n : ℕ) (l : List ℕ) → m ≤ n → AtLeast f n l → AtLeast f m l
AtLeast-lower f m n [] k h = tt
AtLeast-lower f m n (u ∷ us) k h =
    let a : n ≤ f u = h.0 in let b : m ≤ f u = omega arith in (b, AtLeast-lower f m n us k h.1)

AtLeast-placed : (f : ℕ → ℕ) (n t : ℕ) (l : List ℕ) → n ≤ f t → AtLeast f n l → AtLeast f n (placed f t l)
AtLeast-placed f n t [] k h = (k, tt)
AtLeast-placed f n t (u ∷ us) k h =
    elim (nat_le (f t) (f u)) as (λ b. AtLeast f n (cond b (t ∷ u ∷ us) (u ∷ placed f t us)))
    [ true ↦ (k, h) | false ↦ (h.0, AtLeast-placed f n t us k h.1) ]

le_of : (a b : ℕ) → nat_le a b ≡ true → a ≤ b
le_of a b h = grind (arith, nat_tests)

le_not : (a b : ℕ) → nat_le a b ≡ false → b ≤ a
le_not a b h = grind (arith, nat_tests)

Sorted-placed : (f : ℕ → ℕ) (t : ℕ) (l : List ℕ) → Sorted f l → Sorted f (placed f t l)
Sorted-placed f t [] h = (tt, tt)
Sorted-placed f t (u ∷ us) h = by_test (nat_le (f t) (f u)) refl (Sorted-placed f t us h.1) where
  by_test : (b : Bool) → nat_le (f t) (f u) ≡ b → Sorted f (placed f t us)
      → Sorted f (cond b (t ∷ u ∷ us) (u ∷ placed f t us))
  by_test true e rest = ((le_of _ _ e, AtLeast-lower f (f t) (f u) us (le_of _ _ e) h.0), h)
  by_test false e rest = (AtLeast-placed f (f u) t us (le_not _ _ e) h.0, rest)

pub Sorted-sorted : (f : ℕ → ℕ) (l : List ℕ) → Sorted f (sorted f l)
Sorted-sorted f [] = tt
Sorted-sorted f (t ∷ ts) = Sorted-placed f t (sorted f ts) (Sorted-sorted f ts)

AtLeast-filter : (p : ℕ → Bool) (f : ℕ → ℕ) (n : ℕ) (l : List ℕ) → AtLeast f n l → AtLeast f n (filter p l)
AtLeast-filter p f n [] h = tt
AtLeast-filter p f n (u ∷ us) h =
    elim (p u) as (λ b. AtLeast f n (cond b (u ∷ filter p us) (filter p us)))
    [ true ↦ (h.0, AtLeast-filter p f n us h.1) | false ↦ AtLeast-filter p f n us h.1 ]

le_true : (a b : ℕ) → a ≤ b → nat_le a b ≡ true
le_true a b h = grind (arith, nat_tests)

placed-front : (f : ℕ → ℕ) (t : ℕ) (l : List ℕ) → AtLeast f (f t) l → placed f t l ≡ t ∷ l
placed-front f t [] h = refl
placed-front f t (u ∷ us) h = let e = le_true (f t) (f u) h.0 in rw e refl

-- a filter of a sort is the sort of the filter
filter-placed_in : (p : ℕ → Bool) (f : ℕ → ℕ) (t : ℕ) (l : List ℕ) → p t ≡ true → Sorted f l
    → filter p (placed f t l) ≡ placed f t (filter p l)
filter-placed_in p f t [] e h = rw e refl
filter-placed_in p f t (u ∷ us) e h =
    by_tests (nat_le (f t) (f u)) (p u) refl refl (filter-placed_in p f t us e h.1) where
      by_tests : (b c : Bool) → nat_le (f t) (f u) ≡ b → p u ≡ c → filter p (placed f t us) ≡ placed f t (filter p us)
          → filter p (cond b (t ∷ u ∷ us) (u ∷ placed f t us)) ≡ placed f t (cond c (u ∷ filter p us) (filter p us))
      by_tests true true k q rest = rw (e, q, k) refl
      by_tests true false k q rest = rw (e, q) (sym
          (placed-front f t (filter p us) (AtLeast-filter p f (f t) us
          (AtLeast-lower f (f t) (f u) us (le_of _ _ k) h.0))))
      by_tests false true k q rest = rw (q, k) (ap (λ (l : List ℕ). u ∷ l) rest)
      by_tests false false k q rest = rw q rest

filter-placed_out : (p : ℕ → Bool) (f : ℕ → ℕ) (t : ℕ) (l : List ℕ) → p t ≡ false → filter p (placed f t l) ≡ filter p l
filter-placed_out p f t [] e = rw e refl
filter-placed_out p f t (u ∷ us) e = by_tests (nat_le (f t) (f u)) (p u) refl refl (filter-placed_out p f t us e) where
  by_tests : (b c : Bool) → nat_le (f t) (f u) ≡ b → p u ≡ c → filter p (placed f t us) ≡ filter p us
      → filter p (cond b (t ∷ u ∷ us) (u ∷ placed f t us)) ≡ cond c (u ∷ filter p us) (filter p us)
  by_tests true true k q rest = rw (e, q) refl
  by_tests true false k q rest = rw (e, q) refl
  by_tests false true k q rest = rw q (ap (λ (l : List ℕ). u ∷ l) rest)
  by_tests false false k q rest = rw q rest

pub filter-sorted : (p : ℕ → Bool) (f : ℕ → ℕ) (l : List ℕ) → filter p (sorted f l) ≡ sorted f (filter p l)
filter-sorted p f [] = refl
filter-sorted p f (t ∷ ts) = by_test (p t) refl (filter-sorted p f ts) where
  by_test : (b : Bool) → p t ≡ b → filter p (sorted f ts) ≡ sorted f (filter p ts)
      → filter p (placed f t (sorted f ts)) ≡ sorted f (cond b (t ∷ filter p ts) (filter p ts))
  by_test true e rest = filter-placed_in p f t (sorted f ts) e (Sorted-sorted f ts) ∙ ap (placed f t) rest
  by_test false e rest = filter-placed_out p f t (sorted f ts) e ∙ rest

-- two filters commute
pub filter-swap : (p q : ℕ → Bool) (l : List ℕ) → filter p (filter q l) ≡ filter q (filter p l)
filter-swap p q [] = refl
filter-swap p q (t ∷ ts) = by_tests (p t) (q t) refl refl (filter-swap p q ts) where
  by_tests : (b c : Bool) → p t ≡ b → q t ≡ c → filter p (filter q ts) ≡ filter q (filter p ts)
      → filter p (cond c (t ∷ filter q ts) (filter q ts)) ≡ filter q (cond b (t ∷ filter p ts) (filter p ts))
  by_tests true true e k rest = rw (e, k) (ap (λ (l : List ℕ). t ∷ l) rest)
  by_tests true false e k rest = rw k rest
  by_tests false true e k rest = rw e rest
  by_tests false false e k rest = rest
