-- Lists of nodes: what stays of them where a node is not there, or is the first.
use Rattle.std.proofs.Common.{◌≡◌, ℕ, List, [], ◌∷◌, true, false, nat_eq, Some, refl, ap, ◌∙◌, sym, subst}
use Rattle.std.proofs.lemmas.Bool.{or_parts}
use Rattle.fmp_base.specs.Queues.{first_of}
use Rattle.fmp_base.specs.States.{without}
use Rattle.fmp_ring.specs.Orders.{IsOrder}
use Rattle.fmp_ring.specs.OrderLaws.{nat_eq-same, nat_eq-flip}
use Rattle.fmp_ring.specs.RingLists.{is_in, inserted_before, behind_first}
use Rattle.fmp_ring.specs.WalkLaws.{without-absent}

pub inserted-absent : (at x : ℕ) (l : List ℕ) → is_in at l ≡ false → inserted_before at x l ≡ l
inserted-absent at x [] h = refl
inserted-absent at x (t ∷ ts) h =
    let parts = or_parts (nat_eq at t) (is_in at ts) h in
    rw (nat_eq-flip t at ∙ parts.0) (ap (λ (q : List ℕ). t ∷ q) (inserted-absent at x ts parts.1))

-- without its first, a list is what is behind that
pub without-first : (n x : ℕ) (l : List ℕ) → IsOrder n l → Some x ≡ first_of l → without l x ≡ behind_first l
without-first n x [] o e = cc
without-first n x (t ∷ ts) o e =
    let same : x ≡ t = cc in
    let here : without (t ∷ ts) t ≡ ts = rw (nat_eq-same t) (without-absent t ts o.1) in
    subst (λ (q : ℕ). without (t ∷ ts) q ≡ ts) (sym same) here

pub first-in : (x : ℕ) (l : List ℕ) → Some x ≡ first_of l → is_in x l ≡ true
first-in x [] e = cc
first-in x (t ∷ ts) e = let same : x ≡ t = cc in rw (same, nat_eq-same t) refl
