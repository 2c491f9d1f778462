-- Alike states have the same queues.
use Rattle.std.proofs.Common.{◌≡◌, ℕ, List, [], ◌∷◌, Option, Some, Bool, true, false, ◌&&◌, ◌||◌, not, refl, sym, ◌∙◌}
use Rattle.std.proofs.Common.{ap, filter, nat_eq, nat_le, nat_lt, cond, arith}
use Rattle.std.proofs.lemmas.Bool.Decides.{nat_tests}
use Rattle.std.proofs.lemmas.List.Elements.{filter_agree}
use Rattle.fmp_base.specs.declared.states.TaskBlock.{TaskBlock}
use Rattle.fmp_base.specs.declared.states.WaitQueue.{WaitQueue}
use Rattle.fmp_base.specs.declared.systems.QueueOrder.{QueueOrder}
use Rattle.fmp_base.specs.declared.systems.QueueOrder.TheVariants.{Fifo, Priority}
use Rattle.fmp_base.specs.Queues.{arranged, first_of, first_ready, first_urgent, first_waiting, is_by_priority}
use Rattle.fmp_base.specs.Queues.{is_ready_on, more_urgent, order_of, placed, priority_in, ready_queue, sorted, top}
use Rattle.fmp_base.specs.Queues.{wait_queue, waits_in}
use Rattle.fmp_base.specs.States.{KernelState, task_at}
use Rattle.fmp_base.specs.Systems.{SystemTables}
use Rattle.fmp_bisimulation.specs.Alike.{AlikeStates, Place}
use Rattle.fmp_bisimulation.proofs.TimeLaws.{blocks-at}
use Rattle.fmp_bisimulation.proofs.SortLaws.{sorted-told}

pub filter-both : (P Q : ℕ → Bool) (l : List ℕ) → filter P (filter Q l) ≡ filter (λ u. Q u && P u) l
filter-both P Q [] = refl
filter-both P Q (u ∷ us) = by_test (Q u) (P u) (filter-both P Q us) refl where
  by_test : (b c : Bool) → filter P (filter Q us) ≡ filter (λ v. Q v && P v) us → P u ≡ c
      → filter P (cond b (u ∷ filter Q us) (filter Q us)) ≡ cond (b && P u) (u ∷ filter (λ v. Q v && P v) us)
      (filter (λ v. Q v && P v) us)
  by_test true c rest e = ap (λ (l : List ℕ). cond (P u) (u ∷ l) l) rest
  by_test false c rest e = rest

priority-same : (sys : SystemTables) (s u : KernelState) → AlikeStates sys s u → (t : ℕ) → priority_in s.tasks t
    ≡ priority_in u.tasks t
priority-same sys s u h t =
    let b = blocks-at s.clock u.clock s.tasks u.tasks h.tasks t in ap (λ (z : TaskBlock). z.priority) b.rest

placed-agree : (f g : ℕ → ℕ) → ((t : ℕ) → f t ≡ g t) → (t : ℕ) (l : List ℕ) → placed f t l ≡ placed g t l
placed-agree f g h t [] = refl
placed-agree f g h t (u ∷ us) =
    ap (λ (n : ℕ). cond (nat_le n (f u)) (t ∷ u ∷ us) (u ∷ placed f t us)) (h t)
    ∙ ap (λ (n : ℕ). cond (nat_le (g t) n) (t ∷ u ∷ us) (u ∷ placed f t us)) (h u)
    ∙ ap (λ (l : List ℕ). cond (nat_le (g t) (g u)) (t ∷ u ∷ us) (u ∷ l)) (placed-agree f g h t us)

sorted-agree : (f g : ℕ → ℕ) → ((t : ℕ) → f t ≡ g t) → (l : List ℕ) → sorted f l ≡ sorted g l
sorted-agree f g h [] = refl
sorted-agree f g h (t ∷ ts) = placed-agree f g h t (sorted f ts)
    ∙ ap (λ (l : List ℕ). placed g t l) (sorted-agree f g h ts)

-- lists whose tasks of each priority are the same, where two tables have the same priorities, are sorted to the same
-- list
sorted-both : (f g : ℕ → ℕ) (xs ys : List ℕ) → ((t : ℕ) → f t ≡ g t)
    → ((p : ℕ) → filter (λ t. nat_eq (f t) p) xs ≡ filter (λ t. nat_eq (g t) p) ys) → sorted f xs ≡ sorted g ys
sorted-both f g xs ys h same =
    sorted-told f xs ys (λ p. same p ∙ filter_agree _ _ (λ t. ap (λ (n : ℕ). nat_eq n p) (sym (h t))) ys)
    ∙ sorted-agree f g h ys

-- the ready tasks of one priority
ready-same : (sys : SystemTables) (s u : KernelState) (p priority : ℕ) → AlikeStates sys s u
    → filter (λ t. nat_eq (priority_in s.tasks t) priority) (ready_queue s p)
    ≡ filter (λ t. nat_eq (priority_in u.tasks t) priority) (ready_queue u p)
ready-same sys s u p priority h =
    filter-both _ (λ t. is_ready_on p (task_at s.tasks t)) s.order ∙ h.order (Place.ReadyAt p priority)
    ∙ sym (filter-both _ (λ t. is_ready_on p (task_at u.tasks t)) u.order)

pub first_ready-same : (sys : SystemTables) (s u : KernelState) (p priority : ℕ) → AlikeStates sys s u
    → first_ready s p priority ≡ first_ready u p priority
first_ready-same sys s u p priority h = ap (λ (l : List ℕ). first_of l) (ready-same sys s u p priority h)

urgent-sorted : (tasks : List TaskBlock) (l : List ℕ) → first_urgent tasks l ≡ first_of (sorted (priority_in tasks) l)
urgent-sorted tasks [] = refl
urgent-sorted tasks (t ∷ ts) =
    ap (λ (o : Option ℕ). more_urgent tasks t o) (urgent-sorted tasks ts)
    ∙ by_head (sorted (priority_in tasks) ts) where
      flip : (a b : ℕ) → nat_lt b a ≡ not (nat_le a b)
      flip a b = grind (arith, nat_tests)

      by_test : (u : ℕ) (us rest : List ℕ) (b : Bool) → cond (not b) (Some u) (Some t)
          ≡ first_of (cond b (t ∷ u ∷ us) (u ∷ rest))
      by_test u us rest true = refl
      by_test u us rest false = refl

      by_head : (l : List ℕ) → more_urgent tasks t (first_of l) ≡ first_of (placed (priority_in tasks) t l)
      by_head [] = refl
      by_head (u ∷ us) =
          ap (λ (b : Bool). cond b (Some u) (Some t)) (flip (priority_in tasks t) (priority_in tasks u))
          ∙ by_test u us (placed (priority_in tasks) t us) (nat_le (priority_in tasks t) (priority_in tasks u))

pub top-same : (sys : SystemTables) (s u : KernelState) (p : ℕ) → AlikeStates sys s u → top s p ≡ top u p
top-same sys s u p h =
    urgent-sorted s.tasks (ready_queue s p)
    ∙ ap (λ (l : List ℕ). first_of l) (sorted-both _ _ (ready_queue s p) (ready_queue u p) (priority-same sys s u h)
    (λ priority. ready-same sys s u p priority h))
    ∙ sym (urgent-sorted u.tasks (ready_queue u p))

pub wait_queue-same : (sys : SystemTables) (s u : KernelState) (q : WaitQueue) → AlikeStates sys s u
    → wait_queue sys s q ≡ wait_queue sys u q
wait_queue-same sys s u q h = by_order (order_of sys q) (λ priority. h.order (Place.WaitsAt q priority)) where
  always : (b c : Bool) → b ≡ (b && (c || true))
  always true true = refl
  always true false = refl
  always false true = refl
  always false false = refl

  plainly : (b c : Bool) → (b && c) ≡ (b && (c || false))
  plainly true true = refl
  plainly true false = refl
  plainly false true = refl
  plainly false false = refl

  by_order : (o : QueueOrder)
      → ((priority : ℕ) → filter (λ t. waits_in q (task_at s.tasks t)
      && (nat_eq (priority_in s.tasks t) priority || not (is_by_priority o))) s.order
      ≡ filter (λ t. waits_in q (task_at u.tasks t) && (nat_eq (priority_in u.tasks t) priority
      || not (is_by_priority o))) u.order)
      → arranged o (priority_in s.tasks) (filter (λ t. waits_in q (task_at s.tasks t)) s.order)
      ≡ arranged o (priority_in u.tasks) (filter (λ t. waits_in q (task_at u.tasks t)) u.order)
  by_order Fifo same =
      filter_agree _ _ (λ t. always (waits_in q (task_at s.tasks t)) (nat_eq (priority_in s.tasks t) 0)) s.order
      ∙ same 0
      ∙ sym (filter_agree _ _ (λ t. always (waits_in q (task_at u.tasks t)) (nat_eq (priority_in u.tasks t) 0)) u.order)
  by_order Priority same =
      sorted-both _ _ _ _ (priority-same sys s u h)
      (λ p. filter-both _ (λ t. waits_in q (task_at s.tasks t)) s.order
      ∙ filter_agree _ _ (λ t. plainly (waits_in q (task_at s.tasks t)) (nat_eq (priority_in s.tasks t) p)) s.order
      ∙ same p
      ∙ sym (filter_agree _ _ (λ t. plainly (waits_in q (task_at u.tasks t)) (nat_eq (priority_in u.tasks t) p))
      u.order)
      ∙ sym (filter-both _ (λ t. waits_in q (task_at u.tasks t)) u.order))

pub first_waiting-same : (sys : SystemTables) (s u : KernelState) (q : WaitQueue) → AlikeStates sys s u
    → first_waiting sys s q ≡ first_waiting sys u q
first_waiting-same sys s u q h = ap (λ (l : List ℕ). first_of l) (wait_queue-same sys s u q h)
