-- What a processor runs is assigned to it: how this comes through a change of a task or a processor.
use Rattle.std.proofs.Common.{◌≡◌, ℕ, zero, suc, ◌<◌, List, [], ◌∷◌, length, Some, true, slice_get, slice_set, refl}
use Rattle.std.proofs.Common.{sym, subst, ap, ◌∙◌, arith}
use Rattle.fmp_base.specs.declared.states.Phase.TheVariants.{Ready}
use Rattle.fmp_base.specs.declared.states.Processor.{Processor}
use Rattle.fmp_base.specs.declared.states.TaskBlock.{TaskBlock}
use Rattle.fmp_base.specs.States.{KernelState, task_at, idle}
use Rattle.fmp_base.specs.Systems.{found}
use Rattle.fmp_base.specs.TaskCalls.{is_dormant}

-- what is at place j after place i was written
pub set_at : {A : Type 0} (d : A) (P : A → Type 0) (xs : List A) (i : ℕ) (y : A) (j : ℕ) → (i ≡ j → P y)
    → P (found d (slice_get xs j)) → P (found d (slice_get (slice_set xs i y) j))
set_at d P [] i y j h k = k
set_at d P (x ∷ xs) zero y zero h k = h refl
set_at d P (x ∷ xs) zero y (suc j) h k = k
set_at d P (x ∷ xs) (suc i) y zero h k = k
set_at d P (x ∷ xs) (suc i) y (suc j) h k = set_at d P xs i y j (λ e. h (ap suc e)) k

-- the same where nothing is known of what was at place i
pub set_over : {A : Type 0} (d : A) (P : A → Type 0) (xs : List A) (i : ℕ) (y : A) (j : ℕ) → P d → (i ≡ j → P y)
    → ((i ≡ j → ⊥) → P (found d (slice_get xs j))) → P (found d (slice_get (slice_set xs i y) j))
set_over d P [] i y j none h k = none
set_over d P (x ∷ xs) zero y zero none h k = h refl
set_over d P (x ∷ xs) zero y (suc j) none h k = k (λ e. cc)
set_over d P (x ∷ xs) (suc i) y zero none h k = k (λ e. cc)
set_over d P (x ∷ xs) (suc i) y (suc j) none h k =
    set_over d P xs i y j none (λ e. h (ap suc e)) (λ n. k (λ e. n cc))

-- processor q runs task t
abbrev pub Runs : List Processor → ℕ → ℕ → Type 0
Runs cpus q t = (found idle (slice_get cpus q)).run ≡ Some t

-- a task that processor q may run
pub record Fits (q : ℕ) (x : TaskBlock) : Type 0 where
  pub place : x.processor ≡ q
  pub ready : x.phase ≡ Ready

pub record Assigned (tasks : List TaskBlock) (cpus : List Processor) : Type 0 where
  pub each : (q t : ℕ) → Runs cpus q t → Fits q (task_at tasks t)

abbrev pub Holds : KernelState → Type 0
Holds s = Assigned s.tasks s.processors

pub fits-task : (tasks : List TaskBlock) (t : ℕ) (y : TaskBlock) (q u : ℕ) → (t ≡ u → Fits q y)
    → Fits q (task_at tasks u)
    → Fits q (task_at (slice_set tasks t y) u)
fits-task tasks t y q u h k = set_at (task_at [] 0) (λ x. Fits q x) tasks t y u h k

-- task t becomes y, which its processor may run
pub assigned-task : (tasks : List TaskBlock) (cpus : List Processor) (t : ℕ) (y : TaskBlock) → Assigned tasks cpus
    → ((q : ℕ) → Runs cpus q t → Fits q y) → Assigned (slice_set tasks t y) cpus
assigned-task tasks cpus t y a h =
    record {
      each = λ q u r. fits-task tasks t y q u (λ e. h q (subst (λ (v : ℕ). Runs cpus q v) (sym e) r)) (a.each q
          u r);
    }

-- processor p becomes one whose task it may run
pub assigned-processor : (tasks : List TaskBlock) (cpus : List Processor) (p : ℕ) (cpu : Processor)
    → Assigned tasks cpus
    → ((t : ℕ) → cpu.run ≡ Some t → Fits p (task_at tasks t)) → Assigned tasks (slice_set cpus p cpu)
assigned-processor tasks cpus p cpu a h = record { each = λ q t r. after q t r } where
  after : (q t : ℕ) → Runs (slice_set cpus p cpu) q t → Fits q (task_at tasks t)
  after q t = set_at idle (λ c. c.run ≡ Some t → Fits q (task_at tasks t)) cpus p cpu q
      (λ e r. subst (λ (v : ℕ). Fits v (task_at tasks t)) e (h t r)) (a.each q t)

-- a task that changes nothing of what fits
pub assigned-alike : (tasks : List TaskBlock) (cpus : List Processor) (t : ℕ) (y : TaskBlock) → Assigned tasks cpus
    → y.processor ≡ (task_at tasks t).processor
    → ((task_at tasks t).phase ≡ Ready → y.phase ≡ Ready) → Assigned (slice_set tasks t y) cpus
assigned-alike tasks cpus t y a e h =
    assigned-task tasks cpus t y a (λ q r. let f = a.each q t r in record { place = e ∙ f.place; ready = h f.ready })

-- no processor runs task t
abbrev pub IsRunNowhere : List Processor → ℕ → Type 0
IsRunNowhere cpus t = (q : ℕ) → Runs cpus q t → ⊥

pub assigned-unrun : (tasks : List TaskBlock) (cpus : List Processor) (t : ℕ) (y : TaskBlock) → Assigned tasks cpus
    → IsRunNowhere cpus t → Assigned (slice_set tasks t y) cpus
assigned-unrun tasks cpus t y a h = assigned-task tasks cpus t y a (λ q r. absurd (h q r))

pub dormant-unrun : (tasks : List TaskBlock) (cpus : List Processor) (t : ℕ) → Assigned tasks cpus
    → is_dormant (task_at tasks t).phase ≡ true → IsRunNowhere cpus t
dormant-unrun tasks cpus t a d q r = let f = a.each q t r in let e = ap is_dormant f.ready in cc

-- two processors that run the same task are one
pub run-once : (tasks : List TaskBlock) (cpus : List Processor) (t p q : ℕ) → Assigned tasks cpus → Runs cpus p t
    → Runs cpus q t → p ≡ q
run-once tasks cpus t p q a h k = let f = a.each p t h in let g = a.each q t k in sym f.place ∙ g.place

pub set_other : {A : Type 0} (d : A) (xs : List A) (i : ℕ) (y : A) (j : ℕ) → (i ≡ j → ⊥)
    → found d (slice_get (slice_set xs i y) j) ≡ found d (slice_get xs j)
set_other d [] i y j h = refl
set_other d (x ∷ xs) zero y zero h = absurd (h refl)
set_other d (x ∷ xs) zero y (suc j) h = refl
set_other d (x ∷ xs) (suc i) y zero h = refl
set_other d (x ∷ xs) (suc i) y (suc j) h = set_other d xs i y j (λ e. h (ap suc e))

pub set_same : {A : Type 0} (d : A) (xs : List A) (i : ℕ) (y : A) → i < length xs
    → found d (slice_get (slice_set xs i y) i) ≡ y
set_same d [] i y h = absurd (omega (arith, h))
set_same d (x ∷ xs) zero y h = refl
set_same d (x ∷ xs) (suc i) y h = set_same d xs i y (omega (arith, h))

-- a processor that runs a task is there
pub runs-within : (cpus : List Processor) (q t : ℕ) → Runs cpus q t → q < length cpus
runs-within [] q t r = cc
runs-within (c ∷ cpus) zero t r = omega arith
runs-within (c ∷ cpus) (suc q) t r = let l = runs-within cpus q t r in omega (arith, l)
