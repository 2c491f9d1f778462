-- One step more on the way of tasks that wait for one another.
use Rattle.std.proofs.Common.{◌≡◌, refl, ap, ◌∙◌, ℕ, suc, zero, ◌+◌, ◌-◌, ◌<◌, ◌≤◌, List, [], ◌∷◌, Option, Some, None}
use Rattle.std.proofs.Common.{Bool, true, false, ◌||◌, if◌then◌else◌, nat_eq, arith, length}
use Rattle.fmp_why.specs.declared.obstacles.SpinWait.{SpinWait}
use Rattle.fmp_base.specs.declared.states.Processor.{Processor}
use Rattle.fmp_why.specs.Cycles.{cycle_from, is_on_cycle, leads_to, next_of}
use Rattle.fmp_why.specs.Obstacles.{spin_of}

one-less : (m s : ℕ) → s < m → m - s ≡ suc (m - (s + 1))
one-less m s h = omega (arith, h)

-- no task leads nowhere
pub leads-none : (bs : List (Option ℕ)) (goal n : ℕ) → leads_to bs goal n None ≡ false
leads-none bs goal zero = refl
leads-none bs goal (suc n) = refl

-- it leads to a task that stands here
pub leads-here : (bs : List (Option ℕ)) (goal m s t : ℕ) → s < m → nat_eq t goal ≡ true
    → leads_to bs goal (m - s) (Some t) ≡ true
leads-here bs goal m s t h e =
    ap (λ (n : ℕ). leads_to bs goal n (Some t)) (one-less m s h)
    ∙ ap (λ (b : Bool). b || leads_to bs goal (m - (s + 1)) (next_of bs t)) e

-- or on from here
pub leads-on : (bs : List (Option ℕ)) (goal m s t : ℕ) → s < m → nat_eq t goal ≡ false
    → leads_to bs goal (m - s) (Some t) ≡ leads_to bs goal (m - (s + 1)) (next_of bs t)
leads-on bs goal m s t h e =
    ap (λ (n : ℕ). leads_to bs goal n (Some t)) (one-less m s h)
    ∙ ap (λ (b : Bool). b || leads_to bs goal (m - (s + 1)) (next_of bs t)) e

-- no steps are left
pub leads-end : (bs : List (Option ℕ)) (goal m s : ℕ) (at : Option ℕ) → m ≤ s → leads_to bs goal (m - s) at ≡ false
leads-end bs goal m s at h = ap (λ (n : ℕ). leads_to bs goal n at) (none m s h) where
  none : (m s : ℕ) → m ≤ s → m - s ≡ 0
  none m s h = omega (arith, h)

-- the first task on a cycle stands after one that is on none
pub cycle-on : (bs : List (Option ℕ)) (m t : ℕ) → t < m → is_on_cycle bs t ≡ false
    → cycle_from bs t (m - t) ≡ cycle_from bs (t + 1) (m - (t + 1))
cycle-on bs m t h e =
    ap (λ (n : ℕ). cycle_from bs t n) (one-less m t h)
    ∙ ap (λ (b : Bool). if b then Some t else cycle_from bs (t + 1) (m - (t + 1))) e

-- where nothing more is spun for
pub spins-end : (cpus : List Processor) (spins : List (Option SpinWait)) (t : ℕ) → length spins < 1 → None
    ≡ spin_of cpus spins t
spins-end [] spins t h = refl
spins-end (x ∷ xs) [] t h = refl
spins-end (x ∷ xs) (s ∷ ss) t h = absurd (omega (arith, h))
