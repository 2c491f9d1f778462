-- The task that is to run on a processor may run there.
use Rattle.std.proofs.Common.{◌≡◌, ℕ, List, [], ◌∷◌, Option, Some, None, Bool, true, false, cond, ◌⊎◌, inl, inr, not}
use Rattle.std.proofs.Common.{nat_eq, nat_lt, refl, subst, if◌then◌else◌}
use Rattle.std.specs.List.{filter}
use Rattle.std.proofs.lemmas.Bool.{eqb-true}
use Rattle.fmp_base.specs.declared.states.Phase.{Phase}
use Rattle.fmp_base.specs.declared.states.Phase.TheVariants.{Dormant, Ready, Waiting}
use Rattle.fmp_base.specs.declared.states.TaskBlock.{TaskBlock}
use Rattle.fmp_base.specs.Queues.{top, first_urgent, more_urgent, is_ready_on, is_ready, is_ready_phase, priority_in}
use Rattle.fmp_base.specs.States.{KernelState, task_at}
use Rattle.fmp_worlds.proofs.Assigned.{Fits}
use Rattle.fmp_worlds.proofs.Bools.{and-true}

if_some : (b : Bool) (u v t : ℕ) → (if b then Some v else Some u) ≡ Some t → (u ≡ t) ⊎ (Some v ≡ Some t)
if_some true u v t h = inr h
if_some false u v t h = inl cc

more_urgent-is : (tasks : List TaskBlock) (u : ℕ) (o : Option ℕ) (t : ℕ) → more_urgent tasks u o ≡ Some t
    → (u ≡ t) ⊎ (o ≡ Some t)
more_urgent-is tasks u None t h = inl cc
more_urgent-is tasks u (Some v) t h = if_some (nat_lt (priority_in tasks v) (priority_in tasks u)) u v t h

-- the first urgent of those that pass a test passes it
first_urgent-passes : (tasks : List TaskBlock) (on : ℕ → Bool) (ts : List ℕ) (t : ℕ)
    → first_urgent tasks (filter on ts) ≡ Some t → on t ≡ true
first_urgent-passes tasks on [] t h = cc
first_urgent-passes tasks on (u ∷ ts) t h = by_test (on u) refl h (first_urgent-passes tasks on ts t) where
  by_test : (b : Bool) → on u ≡ b → first_urgent tasks (cond b (u ∷ filter on ts) (filter on ts)) ≡ Some t
      → (first_urgent tasks (filter on ts) ≡ Some t → on t ≡ true) → on t ≡ true
  by_test false e k rest = rest k
  by_test true e k rest =
      elim (more_urgent-is tasks u (first_urgent tasks (filter on ts)) t k) [
        | inl same ↦ subst (λ (v : ℕ). on v ≡ true) same e
        | inr other ↦ rest other
      ]

passes : (phase : Phase) → is_ready_phase phase ≡ true → phase ≡ Ready
passes Dormant h = cc
passes Ready h = refl
passes (Waiting c) h = cc

pub fits-top : (s : KernelState) (q t : ℕ) → top s q ≡ Some t → Fits q (task_at s.tasks t)
fits-top s q t h =
    let x = task_at s.tasks t in
    let on : is_ready_on q x ≡ true = first_urgent-passes s.tasks (λ u. is_ready_on q (task_at s.tasks u)) s.order t h
    in
    let parts = and-true (is_ready x) (nat_eq x.processor q) on in
    let ready = and-true (is_ready_phase x.phase) (not x.suspended) parts.0 in
    record { place = eqb-true x.processor q parts.1; ready = passes x.phase ready.0 }
