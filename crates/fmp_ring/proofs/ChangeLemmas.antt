-- What becomes of a chain when a place is taken out of its ring, or put into one.
use Rattle.std.proofs.Common.{◌≡◌, ◌≢◌, ℕ, ◌<◌, ◌≤◌, List, [], ◌∷◌, ◌++◌, Bool, true, false, cond, nat_eq, not, refl}
use Rattle.std.proofs.Common.{◌∙◌, sym, subst, arith}
use Rattle.std.proofs.lemmas.Bool.{or_parts}
use Rattle.fmp_base.specs.States.{without}
use Rattle.fmp_ring.specs.Chains.{Chain}
use Rattle.fmp_ring.specs.Orders.{IsOrder}
use Rattle.fmp_ring.specs.RingLists.{is_in, inserted_before}
use Rattle.fmp_ring.specs.OrderLaws.{nat_same, nat_apart, nat_eq-flip}
use Rattle.fmp_ring.specs.WalkLaws.{without-absent}

-- links between places other than x stay, but for one to b
pub record KeepsOthers (next previous next_new previous_new : ℕ → ℕ) (x b : ℕ) : Type 0 where
  pub forth : (p q : ℕ) → next p ≡ q → previous q ≡ p → p ≢ x → q ≢ x → q ≢ b → next_new p ≡ q
  pub back : (p q : ℕ) → next p ≡ q → previous q ≡ p → p ≢ x → q ≢ x → q ≢ b → previous_new q ≡ p

-- a chain without x and b stays
pub Chain-stays : (n : ℕ) (next previous next_new previous_new : ℕ → ℕ) (x b a : ℕ) (l : List ℕ) (z : ℕ)
    → KeepsOthers next previous next_new previous_new x b → a ≢ x → z ≢ x → z ≢ b → is_in x l ≡ false → is_in b l
    ≡ false
    → Chain n next previous a l z → Chain n next_new previous_new a l z
Chain-stays n next previous next_new previous_new x b a [] z k ax zx zb hx hb c =
    (k.forth a z c.0 c.1 ax zx zb, k.back a z c.0 c.1 ax zx zb)
Chain-stays n next previous next_new previous_new x b a (t ∷ ts) z k ax zx zb hx hb c =
    let px = or_parts (nat_eq x t) (is_in x ts) hx in
    let pb = or_parts (nat_eq b t) (is_in b ts) hb in
    let tx : t ≢ x = nat_apart t x (nat_eq-flip t x ∙ px.0) in
    let tb : t ≢ b = nat_apart t b (nat_eq-flip t b ∙ pb.0) in (
      c.0,
      k.forth a t c.1 c.2 ax tx tb,
      k.back a t c.1 c.2 ax tx tb,
      Chain-stays n next previous next_new previous_new x b t ts z k tx zx zb px.1 pb.1 c.3,
    )

-- x is taken out: the places beside it are linked
pub record IsUnlinked (next previous next_new previous_new : ℕ → ℕ) (x : ℕ) : Type 0 where
  pub forward : next (previous x) ≡ x
  pub back : previous (next x) ≡ x
  pub next_there : next_new (previous x) ≡ next x
  pub previous_there : previous_new (next x) ≡ previous x
  pub marked : next_new x ≡ x
  pub next_else : (q : ℕ) → q ≢ previous x → q ≢ x → next_new q ≡ next q
  pub previous_else : (q : ℕ) → q ≢ next x → previous_new q ≡ previous q

pub KeepsOthers-unlinked : (next previous next_new previous_new : ℕ → ℕ) (x : ℕ)
    → IsUnlinked next previous next_new previous_new x
    → KeepsOthers next previous next_new previous_new x x
KeepsOthers-unlinked next previous next_new previous_new x u = record {
  forth = λ p q e f px qx _. u.next_else p (λ r. qx (same_next p q e r)) px ∙ e;
  back = λ p q e f px qx _. u.previous_else q (λ r. px (same_previous p q f r)) ∙ f;
} where
  same_next : (p q : ℕ) → next p ≡ q → p ≡ previous x → q ≡ x
  same_next p q e r = cc

  same_previous : (p q : ℕ) → previous q ≡ p → q ≡ next x → p ≡ x
  same_previous p q f r = cc

-- the chain behind x follows the place before x
Chain-jump : (n : ℕ) (next previous next_new previous_new : ℕ → ℕ) (x : ℕ) (l : List ℕ) (z : ℕ)
    → IsUnlinked next previous next_new previous_new x → z ≢ x → is_in x l ≡ false
    → Chain n next previous x l z → Chain n next_new previous_new (previous x) l z
Chain-jump n next previous next_new previous_new x [] z u zx h c =
    let e : next x ≡ z = c.0 in
    let d : previous_new (next x) ≡ previous x = u.previous_there in
    (u.next_there ∙ e, rw e at d)
Chain-jump n next previous next_new previous_new x (t ∷ ts) z u zx h c =
    let e : next x ≡ t = c.1 in
    let d : previous_new (next x) ≡ previous x = u.previous_there in
    let p = or_parts (nat_eq x t) (is_in x ts) h in
    let tx : t ≢ x = nat_apart t x (nat_eq-flip t x ∙ p.0) in (
      c.0,
      u.next_there ∙ e,
      rw e at d,
      Chain-stays n next previous next_new previous_new x x t ts z (KeepsOthers-unlinked next previous next_new
          previous_new x u) tx zx zx p.1 p.1 c.3,
    )

-- each ring goes on without x, whether or not x was in it
pub Chain-without : (n : ℕ) (next previous next_new previous_new : ℕ → ℕ) (x a : ℕ) (l : List ℕ) (z : ℕ)
    → IsUnlinked next previous next_new previous_new x → IsOrder n l → a ≢ x → z ≢ x
    → Chain n next previous a l z → Chain n next_new previous_new a (without l x) z
Chain-without n next previous next_new previous_new x a [] z u o ax zx c =
    Chain-stays n next previous next_new previous_new x x a [] z (KeepsOthers-unlinked next previous next_new
    previous_new x u) ax zx zx refl refl c
Chain-without n next previous next_new previous_new x a (t ∷ ts) z u o ax zx c =
    by_test (nat_eq t x) refl (λ tx. Chain-without n next previous next_new previous_new x t ts z u o.2 tx zx c.3) where
      by_test : (b : Bool) → nat_eq t x ≡ b → (t ≢ x → Chain n next_new previous_new t (without ts x) z)
          → Chain n next_new previous_new a (cond (not b) (t ∷ without ts x) (without ts x)) z
      by_test true e rest =
          let same : t ≡ x = nat_same t x e in
          let absent : is_in x ts ≡ false = subst (λ (q : ℕ). is_in q ts ≡ false) same o.1 in
          let here : previous x ≡ a = subst (λ (q : ℕ). previous q ≡ a) same c.2 in
          let rest_chain : Chain n next previous x ts z = subst (λ (q : ℕ). Chain n next previous q ts z) same c.3 in
          subst (λ (q : List ℕ). Chain n next_new previous_new a q z) (sym (without-absent x ts absent))
          (subst (λ (q : ℕ). Chain n next_new previous_new q ts z) here
          (Chain-jump n next previous next_new previous_new x ts z u zx absent rest_chain))
      by_test false e rest =
          let tx : t ≢ x = nat_apart t x e in
          let k = KeepsOthers-unlinked next previous next_new previous_new x u in
          (c.0, k.forth a t c.1 c.2 ax tx tx, k.back a t c.1 c.2 ax tx tx, rest tx)

-- x is put between the place before b, and b
pub record IsLinkedIn (next previous next_new previous_new : ℕ → ℕ) (x b : ℕ) : Type 0 where
  pub forward : next (previous b) ≡ b
  pub next_before : next_new (previous b) ≡ x
  pub next_here : next_new x ≡ b
  pub previous_here : previous_new x ≡ previous b
  pub previous_behind : previous_new b ≡ x
  pub next_else : (q : ℕ) → q ≢ previous b → q ≢ x → next_new q ≡ next q
  pub previous_else : (q : ℕ) → q ≢ b → q ≢ x → previous_new q ≡ previous q

pub KeepsOthers-linked_in : (next previous next_new previous_new : ℕ → ℕ) (x b : ℕ)
    → IsLinkedIn next previous next_new previous_new x b
    → KeepsOthers next previous next_new previous_new x b
KeepsOthers-linked_in next previous next_new previous_new x b u = record {
  forth = λ p q e f px qx qb. u.next_else p (λ r. qb (same_next p q e r)) px ∙ e;
  back = λ p q e f px qx qb. u.previous_else q qb qx ∙ f;
} where
  same_next : (p q : ℕ) → next p ≡ q → p ≡ previous b → q ≡ b
  same_next p q e r = cc

-- the ring that ends with b has x last
pub Chain-pushed : (n : ℕ) (next previous next_new previous_new : ℕ → ℕ) (x a : ℕ) (l : List ℕ) (z : ℕ)
    → IsLinkedIn next previous next_new previous_new x z → x < n → n ≤ z → a ≢ x → is_in x l ≡ false
    → Chain n next previous a l z → Chain n next_new previous_new a (l ++ x ∷ []) z
Chain-pushed n next previous next_new previous_new x a [] z u low f ax h c =
    let e : previous z ≡ a = c.1 in
    let before : next_new (previous z) ≡ x = u.next_before in
    (low, rw e at before, u.previous_here ∙ e, (u.next_here, u.previous_behind))
Chain-pushed n next previous next_new previous_new x a (t ∷ ts) z u low f ax h c =
    let p = or_parts (nat_eq x t) (is_in x ts) h in
    let tx : t ≢ x = nat_apart t x (nat_eq-flip t x ∙ p.0) in
    let tn : t < n = c.0 in
    let tz : t ≢ z = omega arith in
    let k = KeepsOthers-linked_in next previous next_new previous_new x z u in (
      c.0,
      k.forth a t c.1 c.2 ax tx tz,
      k.back a t c.1 c.2 ax tx tz,
      Chain-pushed n next previous next_new previous_new x t ts z u low f tx p.1 c.3,
    )

-- each ring that ends elsewhere has x before b, if b was in it
pub Chain-inserted : (n : ℕ) (next previous next_new previous_new : ℕ → ℕ) (x b a : ℕ) (l : List ℕ) (z : ℕ)
    → IsLinkedIn next previous next_new previous_new x b → IsOrder n l → x < n → a ≢ x → z ≢ x → z ≢ b → is_in x l
    ≡ false
    → Chain n next previous a l z → Chain n next_new previous_new a (inserted_before b x l) z
Chain-inserted n next previous next_new previous_new x b a [] z u o low ax zx zb h c =
    Chain-stays n next previous next_new previous_new x b a [] z (KeepsOthers-linked_in next previous next_new
    previous_new x b u) ax zx zb refl refl c
Chain-inserted n next previous next_new previous_new x b a (t ∷ ts) z u o low ax zx zb h c =
    let p = or_parts (nat_eq x t) (is_in x ts) h in
    let tx : t ≢ x = nat_apart t x (nat_eq-flip t x ∙ p.0) in
    by_test tx p.1 (nat_eq t b) refl (Chain-inserted n next previous next_new previous_new x b t ts z u o.2 low tx zx
    zb p.1 c.3) where
      by_test : t ≢ x → is_in x ts ≡ false → (d : Bool) → nat_eq t b ≡ d
          → Chain n next_new previous_new t (inserted_before b x ts) z
          → Chain n next_new previous_new a (cond d (x ∷ t ∷ ts) (t ∷ inserted_before b x ts)) z
      by_test tx hx true e rest =
          let same : t ≡ b = nat_same t b e in
          let here : previous b ≡ a = subst (λ (q : ℕ). previous q ≡ a) same c.2 in
          let before : next_new (previous b) ≡ x = u.next_before in
          let absent : is_in b ts ≡ false = subst (λ (q : ℕ). is_in q ts ≡ false) same o.1 in (
            low,
            rw here at before,
            u.previous_here ∙ here,
            (
              c.0,
              u.next_here ∙ sym same,
              subst (λ (q : ℕ). previous_new q ≡ x) (sym same) u.previous_behind,
              Chain-stays n next previous next_new previous_new x b t ts z
                  (KeepsOthers-linked_in next previous next_new previous_new x b u) tx zx zb hx absent c.3,
            ),
          )
      by_test tx hx false e rest =
          let tb : t ≢ b = nat_apart t b e in
          let k = KeepsOthers-linked_in next previous next_new previous_new x b u in
          (c.0, k.forth a t c.1 c.2 ax tx tb, k.back a t c.1 c.2 ax tx tb, rest)
