-- A task stands in a queue once.
use Rattle.std.proofs.Common.{◌≡◌, ℕ, ◌<◌, List, [], ◌∷◌, Bool, true, false, cond, nat_eq, nat_le, refl, ap, ◌∙◌}
use Rattle.std.specs.Prelude.{◌&&◌, ◌||◌}
use Rattle.std.specs.List.{filter, list_any}
use Rattle.fmp_base.specs.declared.systems.QueueOrder.{QueueOrder}
use Rattle.fmp_base.specs.declared.systems.QueueOrder.TheVariants.{Fifo, Priority}
use Rattle.fmp_base.specs.Queues.{placed, sorted, arranged}
use Rattle.fmp_ring.specs.OrderLaws.{nat_eq-flip}
use Rattle.fmp_ring.specs.Orders.{IsOrder}
use Rattle.fmp_tasks.proofs.StandLemmas.{any-filter, any-placed, any-sorted}

or_false : (a b : Bool) → (a || b) ≡ false → (a ≡ false) × (b ≡ false)
or_false true b h = cc
or_false false b h = (refl, h)

and_false : (b : Bool) → (b && false) ≡ false
and_false true = refl
and_false false = refl

absent-filter : (F : ℕ → Bool) (t : ℕ) (l : List ℕ) → list_any (nat_eq t) l ≡ false → list_any (nat_eq t) (filter F l)
    ≡ false
absent-filter F t l h = any-filter F t l ∙ ap (λ (b : Bool). F t && b) h ∙ and_false (F t)

IsOrder-filter : (F : ℕ → Bool) (n : ℕ) (l : List ℕ) → IsOrder n l → IsOrder n (filter F l)
IsOrder-filter F n [] h = tt
IsOrder-filter F n (t ∷ ts) h =
    let rest = IsOrder-filter F n ts h.2 in
    elim (F t) as (λ b. IsOrder n (cond b (t ∷ filter F ts) (filter F ts))) [
      | true ↦
          (h.0, absent-filter F t ts h.1, rest)
      | false ↦ rest
    ]

IsOrder-placed : (f : ℕ → ℕ) (n t : ℕ) (l : List ℕ) → IsOrder n l → list_any (nat_eq t) l ≡ false → t < n
    → IsOrder n (placed f t l)
IsOrder-placed f n t [] h k l = (l, refl, tt)
IsOrder-placed f n t (u ∷ us) h k l =
    let parts = or_false (nat_eq t u) (list_any (nat_eq t) us) k in
    let apart : nat_eq u t ≡ false = nat_eq-flip u t ∙ parts.0 in
    let absent : list_any (nat_eq u) (placed f t us) ≡ false = any-placed (nat_eq u) f t us
    ∙ ap (λ (b : Bool). b || list_any (nat_eq u) us) apart ∙ h.1 in
    elim (nat_le (f t) (f u)) as (λ b. IsOrder n (cond b (t ∷ u ∷ us) (u ∷ placed f t us)))
    [ true ↦ (l, k, h) | false ↦ (h.0, absent, IsOrder-placed f n t us h.2 parts.1 l) ]

IsOrder-sorted : (f : ℕ → ℕ) (n : ℕ) (l : List ℕ) → IsOrder n l → IsOrder n (sorted f l)
IsOrder-sorted f n [] h = tt
IsOrder-sorted f n (t ∷ ts) h =
    IsOrder-placed f n t (sorted f ts) (IsOrder-sorted f n ts h.2) (any-sorted (nat_eq t) f ts ∙ h.1) h.0

-- a part of an order, arranged, is an order
pub IsOrder-queue : (by : QueueOrder) (f : ℕ → ℕ) (F : ℕ → Bool) (n : ℕ) (l : List ℕ) → IsOrder n l
    → IsOrder n (arranged by f (filter F l))
IsOrder-queue Fifo f F n l h = IsOrder-filter F n l h
IsOrder-queue Priority f F n l h = IsOrder-sorted f n (filter F l) (IsOrder-filter F n l h)
