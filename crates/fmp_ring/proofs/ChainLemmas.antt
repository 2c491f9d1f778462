-- A chain of links determines its list.
use Rattle.std.proofs.Common.{◌≡◌, ◌≢◌, ℕ, zero, suc, ◌<◌, ◌≤◌, List, [], ◌∷◌, length, Bool, true, false, cond, nat_eq}
use Rattle.std.proofs.Common.{◌||◌, Some, None, refl, ap, ◌∙◌, sym, subst, arith}
use Rattle.std.proofs.lemmas.Bool.{or_parts, lt-ltb, le-ltb}
use Rattle.fmp_base.specs.Queues.{first_of}
use Rattle.fmp_ring.specs.Chains.{Chain, walk}
use Rattle.fmp_ring.specs.Orders.{IsOrder}
use Rattle.fmp_ring.specs.RingLists.{is_in, behind}
use Rattle.fmp_ring.specs.OrderLaws.{nat_same, nat_apart, nat_eq-flip}
use Rattle.fmp_ring.specs.WalkLaws.{behind-cons, length-behind}

-- from one place the links lead over one list, to one place that is no node
pub Chain-ends : (n : ℕ) (next previous : ℕ → ℕ) (a : ℕ) (l k : List ℕ) (y z : ℕ) → n ≤ y → n ≤ z
    → Chain n next previous a l y → Chain n next previous a k z → (l ≡ k) × (y ≡ z)
Chain-ends n next previous a [] [] y z f g c d = (refl, cc)
Chain-ends n next previous a [] (u ∷ us) y z f g c d = let e : y ≡ u = cc in absurd (omega arith)
Chain-ends n next previous a (t ∷ ts) [] y z f g c d = let e : z ≡ t = cc in absurd (omega arith)
Chain-ends n next previous a (t ∷ ts) (u ∷ us) y z f g c d =
    let e : t ≡ u = cc in
    let d2 : Chain n next previous t us z = subst (λ (q : ℕ). Chain n next previous q us z) (sym e) d.3 in
    let rest = Chain-ends n next previous t ts us y z f g c.3 d2 in
    (cc (e, rest.0), rest.1)

-- from a node of a list the links lead over what is behind it
pub Chain-behind : (n : ℕ) (next previous : ℕ → ℕ) (x a : ℕ) (l : List ℕ) (z : ℕ) → is_in x l ≡ true
    → Chain n next previous a l z → Chain n next previous x (behind x l) z
Chain-behind n next previous x a [] z h c = cc
Chain-behind n next previous x a (t ∷ ts) z h c = rw (behind-cons x t ts)
    (by_test (nat_eq x t) refl h (λ k. Chain-behind n next previous x t ts z k c.3)) where
      by_test : (b : Bool) → nat_eq x t ≡ b → (b || is_in x ts) ≡ true
          → (is_in x ts ≡ true → Chain n next previous x (behind x ts) z)
          → Chain n next previous x (cond b ts (behind x ts)) z
      by_test true e k rest = subst (λ (q : ℕ). Chain n next previous q ts z) (sym (nat_same x t e)) c.3
      by_test false e k rest = rest k

-- so no node stands in a list twice
pub IsOrder-from_chain : (n : ℕ) (next previous : ℕ → ℕ) (a : ℕ) (l : List ℕ) (z : ℕ) → n ≤ z
    → Chain n next previous a l z → IsOrder n l
IsOrder-from_chain n next previous a [] z f c = tt
IsOrder-from_chain n next previous a (t ∷ ts) z f c =
    (c.0, once (is_in t ts) refl, IsOrder-from_chain n next previous t ts z f c.3) where
      once : (b : Bool) → is_in t ts ≡ b → is_in t ts ≡ false
      once false h = h
      once true h =
          let same : ts ≡ behind t ts = (Chain-ends n next previous t ts (behind t ts) z z f f c.3
          (Chain-behind n next previous t t ts z h c.3)).0 in
          let shorter : length (behind t ts) < length ts = length-behind t ts h in
          let as_long : length ts ≡ length (behind t ts) = ap length same in
          absurd (omega arith)

-- a walk finds the list
pub walk-chain : (n : ℕ) (next previous : ℕ → ℕ) (a : ℕ) (l : List ℕ) (z most : ℕ) → n ≤ z → length l ≤ most
    → Chain n next previous a l z → walk next n most (next a) ≡ l
walk-chain n next previous a [] z zero f h c = refl
walk-chain n next previous a [] z (suc most) f h c =
    let e : next a ≡ z = c.0 in
    rw (e, le-ltb z n f) refl
walk-chain n next previous a (t ∷ ts) z zero f h c = absurd (omega arith)
walk-chain n next previous a (t ∷ ts) z (suc most) f h c =
    let e : next a ≡ t = c.1 in
    let l : t < n = c.0 in
    rw (e, lt-ltb t n l) (ap (λ (q : List ℕ). t ∷ q) (walk-chain n next previous t ts z most f (omega arith) c.3))

-- the place after a is linked back to a
pub record Meets (m : ℕ) (next previous : ℕ → ℕ) (x : ℕ) : Type 0 where
  pub before : previous x < m
  pub after : next x < m
  pub forward : next (previous x) ≡ x
  pub back : previous (next x) ≡ x

Chain-first : (n : ℕ) (next previous : ℕ → ℕ) (m a : ℕ) (l : List ℕ) (z : ℕ) → n ≤ m → z < m
    → Chain n next previous a l z → (previous (next a) ≡ a) × (next a < m)
Chain-first n next previous m a [] z f g c = let e : next a ≡ z = c.0 in (rw e c.1, rw e g)
Chain-first n next previous m a (t ∷ ts) z f g c = let e : next a
    ≡ t = c.1 in let k : t < n = c.0 in (rw e c.2, rw e (omega arith))

-- a node of a list is linked both ways
pub Chain-meets : (n : ℕ) (next previous : ℕ → ℕ) (m x a : ℕ) (l : List ℕ) (z : ℕ) → n ≤ m → z < m → a < m → is_in x l
    ≡ true
    → Chain n next previous a l z → Meets m next previous x
Chain-meets n next previous m x a [] z f g k h c = cc
Chain-meets n next previous m x a (t ∷ ts) z f g k h c =
    let low : t < n = c.0 in
    by_test (nat_eq x t) refl h (λ r. Chain-meets n next previous m x t ts z f g (omega arith) r c.3) where
      by_test : (b : Bool) → nat_eq x t ≡ b → (b || is_in x ts) ≡ true
          → (is_in x ts ≡ true → Meets m next previous x) → Meets m next previous x
      by_test true e r rest =
          let first = Chain-first n next previous m t ts z f g c.3 in
          let back : previous t ≡ a = c.2 in
          subst (λ (q : ℕ). Meets m next previous q) (sym (nat_same x t e))
          (record { before = rw back k; after = first.1; forward = rw back c.1; back = first.0 })
      by_test false e r rest = rest r

-- so is the place at the end
pub Chain-end : (n : ℕ) (next previous : ℕ → ℕ) (m a : ℕ) (l : List ℕ) (z : ℕ) → n ≤ m → a < m
    → Chain n next previous a l z → (next (previous z) ≡ z) × (previous z < m)
Chain-end n next previous m a [] z f k c = let e : previous z ≡ a = c.1 in (rw e c.0, rw e k)
Chain-end n next previous m a (t ∷ ts) z f k c = let low : t < n = c.0 in Chain-end n next previous m t ts z f
    (omega arith) c.3

-- what comes before a node of a list, or before its end, is not a node that stands elsewhere
pub Chain-before : (n : ℕ) (next previous : ℕ → ℕ) (x b a : ℕ) (l : List ℕ) (z : ℕ) → a ≢ x → is_in x l ≡ false
    → is_in b l ≡ true
    → Chain n next previous a l z → previous b ≢ x
Chain-before n next previous x b a [] z ax hx h c = cc
Chain-before n next previous x b a (t ∷ ts) z ax hx h c =
    let p = or_parts (nat_eq x t) (is_in x ts) hx in
    let tx : t ≢ x = nat_apart t x (nat_eq-flip t x ∙ p.0) in
    by_test (nat_eq b t) refl h (λ r. Chain-before n next previous x b t ts z tx p.1 r c.3) where
      by_test : (d : Bool) → nat_eq b t ≡ d → (d || is_in b ts) ≡ true → (is_in b ts ≡ true → previous b ≢ x)
          → previous b ≢ x
      by_test true e r rest = λ g. let same : b ≡ t = nat_same b t e in let there : previous t ≡ a = c.2 in ax (cc)
      by_test false e r rest = rest r

pub Chain-last : (n : ℕ) (next previous : ℕ → ℕ) (x a : ℕ) (l : List ℕ) (z : ℕ) → a ≢ x → is_in x l ≡ false
    → Chain n next previous a l z → previous z ≢ x
Chain-last n next previous x a [] z ax hx c = λ g. ax (sym c.1 ∙ g)
Chain-last n next previous x a (t ∷ ts) z ax hx c =
    let p = or_parts (nat_eq x t) (is_in x ts) hx in
    Chain-last n next previous x t ts z (nat_apart t x (nat_eq-flip t x ∙ p.0)) p.1 c.3

-- the place after a is the first node of the list, or none
pub Chain-some : (n : ℕ) (next previous : ℕ → ℕ) (a : ℕ) (l : List ℕ) (z : ℕ) → n ≤ z → Chain n next previous a l z
    → next a < n → Some (next a) ≡ first_of l
Chain-some n next previous a [] z f c low = let e : next a ≡ z = c.0 in absurd (omega arith)
Chain-some n next previous a (t ∷ ts) z f c low = let e : next a ≡ t = c.1 in ap Some e

pub Chain-none : (n : ℕ) (next previous : ℕ → ℕ) (a : ℕ) (l : List ℕ) (z : ℕ) → Chain n next previous a l z
    → n ≤ next a → None ≡ first_of l
Chain-none n next previous a [] z c low = refl
Chain-none n next previous a (t ∷ ts) z c low = let e : next a ≡ t = c.1 in let k : t < n = c.0 in absurd (omega arith)

-- no node of a ring links to itself
pub Chain-moves : (n : ℕ) (next previous : ℕ → ℕ) (x : ℕ) (l : List ℕ) (z : ℕ) → x < n → n ≤ z
    → Chain n next previous x l z → next x ≢ x
Chain-moves n next previous x [] z low f c = λ e. let k : z ≡ x = sym c.0 ∙ e in absurd (omega arith)
Chain-moves n next previous x (t ∷ ts) z low f c = λ e.
    let same : t ≡ x = sym c.1 ∙ e in
    let rest : Chain n next previous x ts z = subst (λ (q : ℕ). Chain n next previous q ts z) same c.3 in
    let k : length (t ∷ ts) ≡ length ts = ap length (Chain-ends n next previous x (t ∷ ts) ts z z f f c rest).0 in
    absurd (omega arith)
