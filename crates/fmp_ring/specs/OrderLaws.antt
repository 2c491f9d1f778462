-- Numbers told apart, and orders: one stays an order when a number leaves it, joins it or goes to its end, and it has
-- at most as many numbers as its bound says.
use Rattle.std.specs.Prelude.{◌≡◌, ◌≢◌, ℕ, ◌≤◌, ◌<◌, length, List, [], ◌∷◌, ◌++◌, nat_eq, not, Bool, true, false, cond}
use Rattle.std.specs.Prelude.{refl, ◌||◌}
use Rattle.std.specs.List.{IsDistinct, list_any, AllByRecursion}
use Rattle.std.specs.Cmp.{nat_eq_equiv}
use Rattle.std.proofs.Common.{arith, subst, sym, ◌∙◌}
use Rattle.std.proofs.lemmas.Bool.{or_parts}
use Rattle.std.proofs.lemmas.Bool.Decides.{nat_tests}
use Rattle.std.proofs.lemmas.Map.Steps.{length-le_from_distinct_below}
use Rattle.fmp_base.specs.States.{to_end, without}
use Rattle.fmp_ring.specs.Orders.{IsOrder}

pub nat_same : (a b : ℕ) → nat_eq a b ≡ true → a ≡ b
nat_same a b h = grind (arith, nat_tests)

pub nat_apart : (a b : ℕ) → nat_eq a b ≡ false → a ≢ b
nat_apart a b h = grind (arith, nat_tests)

pub nat_eq-same : (a : ℕ) → nat_eq a a ≡ true
nat_eq-same a = grind (arith, nat_tests)

pub nat_eq-flip : (a b : ℕ) → nat_eq a b ≡ nat_eq b a
nat_eq-flip a b = nat_eq_equiv.symm a b

-- what is not there is not there without t
absent-without : (u t : ℕ) (ts : List ℕ) → list_any (nat_eq u) ts ≡ false → list_any (nat_eq u) (without ts t) ≡ false
absent-without u t [] h = refl
absent-without u t (y ∷ ts) h =
    let parts = or_parts (nat_eq u y) (list_any (nat_eq u) ts) h in
    let rest = absent-without u t ts parts.1 in
    elim (nat_eq y t) as (λ b. list_any (nat_eq u) (cond (not b) (y ∷ without ts t) (without ts t)) ≡ false)
    [ true ↦ rest | false ↦ rw parts.0 rest ]

-- t is not there without t
pub without-gone : (t : ℕ) (ts : List ℕ) → list_any (nat_eq t) (without ts t) ≡ false
without-gone t [] = refl
without-gone t (y ∷ ts) = by_test (nat_eq y t) refl (without-gone t ts) where
  by_test : (b : Bool) → nat_eq y t ≡ b → list_any (nat_eq t) (without ts t) ≡ false
      → list_any (nat_eq t) (cond (not b) (y ∷ without ts t) (without ts t)) ≡ false
  by_test true e rest = rest
  by_test false e rest = rw (nat_eq-flip t y ∙ e) rest

pub IsOrder-without : (n t : ℕ) (ts : List ℕ) → IsOrder n ts → IsOrder n (without ts t)
IsOrder-without n t [] h = tt
IsOrder-without n t (y ∷ ts) h =
    let rest = IsOrder-without n t ts h.2 in
    elim (nat_eq y t) as (λ b. IsOrder n (cond (not b) (y ∷ without ts t) (without ts t)))
    [ true ↦ rest | false ↦ (h.0, absent-without y t ts h.1, rest) ]

absent-push : (u t : ℕ) (ts : List ℕ) → list_any (nat_eq u) ts ≡ false → nat_eq u t ≡ false
    → list_any (nat_eq u) (ts ++ t ∷ []) ≡ false
absent-push u t [] h k = rw k refl
absent-push u t (y ∷ ts) h k =
    let parts = or_parts (nat_eq u y) (list_any (nat_eq u) ts) h in
    rw parts.0 (absent-push u t ts parts.1 k)

pub IsOrder-push : (n t : ℕ) (ts : List ℕ) → IsOrder n ts → list_any (nat_eq t) ts ≡ false → t < n
    → IsOrder n (ts ++ t ∷ [])
IsOrder-push n t [] h k l = (l, refl, tt)
IsOrder-push n t (y ∷ ts) h k l =
    let parts = or_parts (nat_eq t y) (list_any (nat_eq t) ts) k in
    (h.0, absent-push y t ts h.1 (nat_eq-flip y t ∙ parts.0), IsOrder-push n t ts h.2 parts.1 l)

pub IsOrder-to_end : (n t : ℕ) (ts : List ℕ) → IsOrder n ts → t < n → IsOrder n (to_end ts t)
IsOrder-to_end n t ts h l = IsOrder-push n t (without ts t) (IsOrder-without n t ts h) (without-gone t ts) l

IsDistinct-from_order : (n : ℕ) (ts : List ℕ) → IsOrder n ts → IsDistinct nat_eq ts
unfolding IsDistinct
IsDistinct-from_order n [] h = tt
IsDistinct-from_order n (t ∷ ts) h = (apart t ts h.1, IsDistinct-from_order n ts h.2) where
  apart : (t : ℕ) (ts : List ℕ) → list_any (nat_eq t) ts ≡ false → AllByRecursion (λ y. nat_eq t y ≡ false) ts
  apart t [] k = tt
  apart t (y ∷ ts) k = let parts = or_parts (nat_eq t y) (list_any (nat_eq t) ts) k in (parts.0, apart t ts parts.1)

pub IsOrder-below : (n : ℕ) (ts : List ℕ) → IsOrder n ts → (q : ℕ) → list_any (nat_eq q) ts ≡ true → q < n
IsOrder-below n [] h q k = cc
IsOrder-below n (t ∷ ts) h q k = by_test (nat_eq q t) refl k (IsOrder-below n ts h.2 q) where
  by_test : (b : Bool) → nat_eq q t ≡ b → (b || list_any (nat_eq q) ts) ≡ true
      → (list_any (nat_eq q) ts ≡ true → q < n) → q < n
  by_test true e k rest = subst (λ (m : ℕ). m < n) (sym (nat_same q t e)) h.0
  by_test false e k rest = rest k

-- an order of numbers below n has at most n of them
pub IsOrder-length : (n : ℕ) (ts : List ℕ) → IsOrder n ts → length ts ≤ n
IsOrder-length n ts h = length-le_from_distinct_below ts n (IsDistinct-from_order n ts h) (IsOrder-below n ts h)
