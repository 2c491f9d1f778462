-- A walk over a list in which no node stands twice: what comes after a node, and what follows it, also once it has
-- left.
use Rattle.std.specs.Prelude.{◌≡◌, ℕ, suc, ◌+◌, ◌<◌, List, [], ◌∷◌, ◌++◌, length, drop, Bool, true, false, cond, not}
use Rattle.std.specs.Prelude.{nat_eq, ◌||◌, refl}
use Rattle.std.specs.List.{position_or_len}
use Rattle.std.proofs.Common.{ap, ◌∙◌, sym, subst, arith, append_assoc}
use Rattle.std.proofs.lemmas.Bool.{or_parts}
use Rattle.fmp_base.specs.Queues.{first_of}
use Rattle.fmp_base.specs.States.{without}
use Rattle.fmp_ring.specs.Orders.{IsOrder}
use Rattle.fmp_ring.specs.OrderLaws.{nat_same, nat_eq-same, nat_eq-flip}
use Rattle.fmp_ring.specs.RingLists.{is_in, inserted_before, behind, follower, from_node}

-- what is after x in a list with a first
pub behind-cons : (x t : ℕ) (ts : List ℕ) → behind x (t ∷ ts) ≡ cond (nat_eq x t) ts (behind x ts)
behind-cons x t ts = by_test (nat_eq x t) (position_or_len (nat_eq x) ts) where
  by_test : (b : Bool) (k : ℕ) → drop (cond (not b) (1 + k) 0 + 1) (t ∷ ts) ≡ cond b ts (drop (k + 1) ts)
  by_test true k = refl
  by_test false k = let e : 1 + k + 1 ≡ suc (k + 1) = omega arith in ap (λ (i : ℕ). drop i (t ∷ ts)) e

pub length-behind : (x : ℕ) (l : List ℕ) → is_in x l ≡ true → length (behind x l) < length l
length-behind x [] h = cc
length-behind x (t ∷ ts) h = rw (behind-cons x t ts) (by_test (nat_eq x t) h (length-behind x ts)) where
  by_test : (b : Bool) → (b || is_in x ts) ≡ true → (is_in x ts ≡ true → length (behind x ts) < length ts)
      → length (cond b ts (behind x ts)) < suc (length ts)
  by_test true k rest = omega arith
  by_test false k rest = let r : length (behind x ts) < length ts = rest k in omega arith

-- without x, a list in which it does not stand is as it was
pub without-absent : (x : ℕ) (l : List ℕ) → is_in x l ≡ false → without l x ≡ l
without-absent x [] h = refl
without-absent x (t ∷ ts) h =
    let parts = or_parts (nat_eq x t) (is_in x ts) h in
    rw (nat_eq-flip t x ∙ parts.0) (ap (λ (q : List ℕ). t ∷ q) (without-absent x ts parts.1))

-- the whole list is the rest from its first
pub from_first : (l : List ℕ) → from_node (first_of l) l ≡ l
from_first [] = refl
from_first (t ∷ ts) = ap (λ (q : List ℕ). t ∷ q) (behind-cons t t ts ∙ rw (nat_eq-same t) refl)

pub in-split : (x : ℕ) (p r : List ℕ) → is_in x (p ++ x ∷ r) ≡ true
in-split x [] r = rw (nat_eq-same x) refl
in-split x (t ∷ ts) r =
    elim (nat_eq x t) as (λ b. (b || is_in x (ts ++ x ∷ r)) ≡ true) [ true ↦ refl | false ↦ in-split x ts r ]

-- a node of an order is none of those before it
apart-split : (n t x : ℕ) (ts r : List ℕ) → IsOrder n (t ∷ ts ++ x ∷ r) → nat_eq t x ≡ false
apart-split n t x ts r o = by_test (nat_eq t x) refl where
  by_test : (b : Bool) → nat_eq t x ≡ b → nat_eq t x ≡ false
  by_test false e = e
  by_test true e =
      let there : is_in t (ts ++ x ∷ r) ≡ true = subst (λ (q : ℕ). is_in q (ts ++ x ∷ r) ≡ true)
      (sym (nat_same t x e)) (in-split x ts r) in
      let absent : is_in t (ts ++ x ∷ r) ≡ false = o.1 in
      cc

-- in an order what comes after a node is the rest of the list
pub behind-split : (n x : ℕ) (p r : List ℕ) → IsOrder n (p ++ x ∷ r) → behind x (p ++ x ∷ r) ≡ r
behind-split n x [] r o = behind-cons x x r ∙ rw (nat_eq-same x) refl
behind-split n x (t ∷ ts) r o =
    let other : nat_eq x t ≡ false = nat_eq-flip x t ∙ apart-split n t x ts r o in
    behind-cons x t (ts ++ x ∷ r) ∙ rw other (behind-split n x ts r o.2)

-- and to insert before it is to insert there
pub inserted-split : (n x y : ℕ) (p r : List ℕ) → IsOrder n (p ++ x ∷ r)
    → inserted_before x y (p ++ x ∷ r) ≡ p ++ y ∷ x ∷ r
inserted-split n x y [] r o = rw (nat_eq-same x) refl
inserted-split n x y (t ∷ ts) r o =
    rw (apart-split n t x ts r o) (ap (λ (q : List ℕ). t ∷ q) (inserted-split n x y ts r o.2))

-- without a node, what was before and after it stays
pub without-split : (n x : ℕ) (p r : List ℕ) → IsOrder n (p ++ x ∷ r) → without (p ++ x ∷ r) x ≡ p ++ r
without-split n x [] r o = rw (nat_eq-same x) (without-absent x r o.1)
without-split n x (t ∷ ts) r o =
    rw (apart-split n t x ts r o) (ap (λ (q : List ℕ). t ∷ q) (without-split n x ts r o.2))

-- the rest from the follower of x is what is after x
pub follower-rest : (n x : ℕ) (l p : List ℕ) → IsOrder n l → l ≡ p ++ x ∷ behind x l
    → from_node (follower x l) l ≡ behind x l
follower-rest n x l p o e = by_list (behind x l) refl where
  by_list : (r : List ℕ) → behind x l ≡ r → from_node (first_of r) l ≡ r
  by_list [] d = refl
  by_list (y ∷ ys) d =
      let whole : l ≡ (p ++ x ∷ []) ++ y ∷ ys = e ∙ (ap (λ (q : List ℕ). p ++ x ∷ q) d
      ∙ sym (append_assoc p (x ∷ []) (y ∷ ys))) in
      let order : IsOrder n ((p ++ x ∷ []) ++ y ∷ ys) = subst (λ (q : List ℕ). IsOrder n q) whole o in
      ap (λ (q : List ℕ). y ∷ q)
      (subst (λ (q : List ℕ). behind y q ≡ ys) (sym whole) (behind-split n y (p ++ x ∷ []) ys order))

absent-drop : (y x : ℕ) (p r : List ℕ) → is_in y (p ++ x ∷ r) ≡ false → is_in y (p ++ r) ≡ false
absent-drop y x [] r h = (or_parts (nat_eq y x) (is_in y r) h).1
absent-drop y x (t ∷ ts) r h =
    let parts = or_parts (nat_eq y t) (is_in y (ts ++ x ∷ r)) h in rw parts.0 (absent-drop y x ts r parts.1)

IsOrder-drop : (n x : ℕ) (p r : List ℕ) → IsOrder n (p ++ x ∷ r) → IsOrder n (p ++ r)
IsOrder-drop n x [] r o = o.2
IsOrder-drop n x (t ∷ ts) r o = (o.0, absent-drop t x ts r o.1, IsOrder-drop n x ts r o.2)

-- and so it is when x has left
pub rest-without : (n x : ℕ) (l p : List ℕ) → IsOrder n l → l ≡ p ++ x ∷ behind x l
    → from_node (follower x l) (without l x) ≡ behind x l
rest-without n x l p o e = by_list (behind x l) refl where
  by_list : (r : List ℕ) → behind x l ≡ r → from_node (first_of r) (without l x) ≡ r
  by_list [] d = refl
  by_list (y ∷ ys) d =
      let whole : l ≡ p ++ x ∷ y ∷ ys = e ∙ ap (λ (q : List ℕ). p ++ x ∷ q) d in
      let order : IsOrder n (p ++ x ∷ y ∷ ys) = subst (λ (q : List ℕ). IsOrder n q) whole o in
      let left : without l x ≡ p ++ y ∷ ys = ap (λ (q : List ℕ). without q x) whole
      ∙ without-split n x p (y ∷ ys) order in
      ap (λ (q : List ℕ). y ∷ q) (subst (λ (q : List ℕ). behind y q ≡ ys) (sym left)
      (behind-split n y p ys (IsOrder-drop n x p (y ∷ ys) order)))
