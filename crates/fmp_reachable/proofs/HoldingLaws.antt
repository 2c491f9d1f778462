-- States with the same blocks in which the same task stands behind each have the same queues, and so are alike.
use Rattle.std.proofs.Common.{◌≡◌, ◌<◌, ◌≤◌, ℕ, zero, suc, List, [], ◌∷◌, Option, Some, None, Bool, true, false, ◌&&◌}
use Rattle.std.proofs.Common.{◌||◌, not, refl, sym, ◌∙◌, ap, subst, filter, length, nat_eq, nat_lt, cond, arith}
use Rattle.std.specs.List.{list_any}
use Rattle.std.proofs.lemmas.Bool.{eqb-true}
use Rattle.std.proofs.lemmas.Bool.Decides.{nat_tests}
use Rattle.std.proofs.lemmas.List.Elements.{filter_agree}
use Rattle.fmp_base.specs.declared.states.Phase.{Phase}
use Rattle.fmp_base.specs.declared.states.Phase.TheVariants.{Dormant, Ready, Waiting}
use Rattle.fmp_base.specs.declared.states.TaskBlock.{TaskBlock}
use Rattle.fmp_base.specs.declared.states.WaitQueue.{WaitQueue}
use Rattle.fmp_base.specs.declared.states.WaitQueue.TheVariants as queue
use Rattle.fmp_base.specs.declared.systems.QueueOrder.{QueueOrder}
use Rattle.fmp_base.specs.declared.systems.QueueOrder.TheVariants.{Fifo, Priority}
use Rattle.fmp_base.specs.Queues.{arranged, is_by_priority, is_queue, is_ready, is_ready_on, is_ready_phase}
use Rattle.fmp_base.specs.Queues.{is_same_queue, order_of, priority_in, queue_of, ready_queue, sorted, wait_queue}
use Rattle.fmp_base.specs.Queues.{waits_in}
use Rattle.fmp_base.specs.States.{KernelState, task_at}
use Rattle.fmp_base.specs.Systems.{SystemTables}
use Rattle.fmp_ring.specs.Orders.{IsOrder}
use Rattle.fmp_ring.specs.RingLists.{follower}
use Rattle.fmp_tasks.specs.Homes.{is_in_order}
use Rattle.fmp_tasks.proofs.OnceLemmas.{IsOrder-queue}
use Rattle.fmp_tasks.proofs.StandLemmas.{any-filter}
use Rattle.fmp_bisimulation.specs.Alike.{AlikeStates, Place, SameBlocks, SameTimes, stands_at, standing, untimed}
use Rattle.fmp_bisimulation.proofs.ReadLaws.{filter-both}
use Rattle.fmp_bisimulation.proofs.SortLaws.{of-sorted}
use Rattle.fmp_bisimulation.proofs.StateLaws.{stands_at-same}
use Rattle.fmp_bisimulation.proofs.TimeLaws.{blocks-at, blocks-long}
use Rattle.fmp_reachable.specs.Behind.{IsOrderly, task_behind}
use Rattle.fmp_tasks.specs.Holding.{queue_holding, waiting_there}
use Rattle.fmp_reachable.proofs.ListLaws.{any-arranged, lists-told}

pub lt_of : (a b : ℕ) → nat_lt a b ≡ true → a < b
lt_of a b h = grind (arith, nat_tests)

pub le_of : (a b : ℕ) → nat_lt a b ≡ false → b ≤ a
le_of a b h = grind (arith, nat_tests)

-- there is nobody beyond the tasks
beyond : (tasks : List TaskBlock) (t : ℕ) → length tasks ≤ t → task_at tasks t ≡ task_at [] 0
beyond [] t l = refl
beyond (x ∷ xs) zero l = absurd (omega arith)
beyond (x ∷ xs) (suc t) l = beyond xs t (omega arith)

both-true : (a b : Bool) → (a && b) ≡ true → (a ≡ true) × (b ≡ true)
both-true true true h = (refl, refl)
both-true true false h = cc
both-true false b h = cc

-- who passes a test that nobody beyond the tasks passes is in the order as his block says
in_order-told : (s : KernelState) → IsOrderly s → (W : TaskBlock → Bool) → W (task_at [] 0) ≡ false → (t : ℕ)
    → (W (task_at s.tasks t) && list_any (nat_eq t) s.order) ≡ (W (task_at s.tasks t)
    && is_in_order (task_at s.tasks t))
in_order-told s a W none t = by_test (nat_lt t (length s.tasks)) refl where
  by_test : (b : Bool) → nat_lt t (length s.tasks) ≡ b
      → (W (task_at s.tasks t) && list_any (nat_eq t) s.order)
      ≡ (W (task_at s.tasks t) && is_in_order (task_at s.tasks t))
  by_test true e =
      let st = a.standing in
      ap (λ (b : Bool). W (task_at s.tasks t) && b) (st.each t (lt_of t (length s.tasks) e))
  by_test false e =
      let off : W (task_at s.tasks t) ≡ false =
      ap (λ (x : TaskBlock). W x) (beyond s.tasks t (le_of t (length s.tasks) e)) ∙ none in
      ap (λ (b : Bool). b && list_any (nat_eq t) s.order) off
      ∙ sym (ap (λ (b : Bool). b && is_in_order (task_at s.tasks t)) off)

same_queue-is : (q r : WaitQueue) → is_same_queue q r ≡ true → q ≡ r
same_queue-is (queue.Semaphore a) (queue.Semaphore b) e = ap (λ (i : ℕ). queue.Semaphore i) (eqb-true a b e)
same_queue-is (queue.Flag a) (queue.Flag b) e = ap (λ (i : ℕ). queue.Flag i) (eqb-true a b e)
same_queue-is (queue.Senders a) (queue.Senders b) e = ap (λ (i : ℕ). queue.Senders i) (eqb-true a b e)
same_queue-is (queue.Receivers a) (queue.Receivers b) e = ap (λ (i : ℕ). queue.Receivers i) (eqb-true a b e)
same_queue-is (queue.Mailbox a) (queue.Mailbox b) e = ap (λ (i : ℕ). queue.Mailbox i) (eqb-true a b e)
same_queue-is q r e = cc

some_queue-is : (q : WaitQueue) (o : Option WaitQueue) → is_queue q o ≡ true → o ≡ Some q
some_queue-is q None e = cc
some_queue-is q (Some r) e = ap (λ (p : WaitQueue). Some p) (sym (same_queue-is q r e))

unready : (q : WaitQueue) (p : Phase) (b : Bool) → is_queue q (queue_of p) ≡ true → (is_ready_phase p && not b) ≡ false
unready q Dormant b e = cc
unready q Ready b e = cc
unready q (Waiting c) b e = refl

-- who waits in a queue is held by it
waits-held : (sys : SystemTables) (s : KernelState) (q : WaitQueue) (t : ℕ) → waits_in q (task_at s.tasks t) ≡ true
    → queue_holding sys s t ≡ wait_queue sys s q
waits-held sys s q t e =
    let x = task_at s.tasks t in
    ap (λ (b : Bool). cond b (filter (λ u. nat_eq (priority_in s.tasks u) (priority_in s.tasks t))
    (ready_queue s x.processor))
    (waiting_there sys s (queue_of x.phase))) (unready q x.phase x.suspended e)
    ∙ ap (λ (o : Option WaitQueue). waiting_there sys s o) (some_queue-is q (queue_of x.phase) e)

-- who is ready on p with a priority is held by the queue of p and that priority
ready-held : (sys : SystemTables) (s : KernelState) (p priority t : ℕ)
    → stands_at sys (Place.ReadyAt p priority) (task_at s.tasks t) ≡ true
    → queue_holding sys s t ≡ standing sys s (Place.ReadyAt p priority)
ready-held sys s p priority t e =
    let x = task_at s.tasks t in
    let on = both-true (is_ready_on p x) (nat_eq x.priority priority) e in
    let is = both-true (is_ready x) (nat_eq x.processor p) on.0 in
    let here : x.processor ≡ p = eqb-true x.processor p is.1 in
    let urgent : x.priority ≡ priority = eqb-true x.priority priority on.1 in
    ap (λ (b : Bool). cond b (filter (λ u. nat_eq (priority_in s.tasks u) (priority_in s.tasks t))
    (ready_queue s x.processor))
    (waiting_there sys s (queue_of x.phase))) is.0
    ∙ ap (λ (r : ℕ). filter (λ u. nat_eq (priority_in s.tasks u) (priority_in s.tasks t)) (ready_queue s r)) here
    ∙ ap (λ (r : ℕ). filter (λ u. nat_eq (priority_in s.tasks u) r) (ready_queue s p)) urgent
    ∙ filter-both (λ u. nat_eq (priority_in s.tasks u) priority) (λ u. is_ready_on p (task_at s.tasks u)) s.order

module _ (sys : SystemTables) (s u : KernelState) (a : IsOrderly s) (b : IsOrderly u)
    (blocks : SameBlocks s.clock u.clock s.tasks u.tasks) (behind : (t : ℕ) → task_behind sys s t
    ≡ task_behind sys u t) where
  -- what a test that sees no deadline says of each task
  abbrev Blind : (TaskBlock → Bool) → Type 0
  Blind W = (t : ℕ) → W (task_at s.tasks t) ≡ W (task_at u.tasks t)

  in_order-blind : Blind is_in_order
  in_order-blind t =
      let k = blocks-at s.clock u.clock s.tasks u.tasks blocks t in ap (λ (z : TaskBlock). is_in_order z) k.rest

  waits-blind : (q : WaitQueue) → Blind (waits_in q)
  waits-blind q t = let k = blocks-at s.clock u.clock s.tasks u.tasks blocks t in ap
      (λ (z : TaskBlock). waits_in q z) k.rest

  stands-blind : (c : Place) → Blind (stands_at sys c)
  stands-blind c t = stands_at-same sys c s.clock u.clock _ _ (blocks-at s.clock u.clock s.tasks u.tasks blocks t)

  -- the same stand in the part of the order that passes a test
  same-members : (W : TaskBlock → Bool) → W (task_at [] 0) ≡ false → Blind W → (t : ℕ)
      → list_any (nat_eq t) (filter (λ v. W (task_at s.tasks v)) s.order)
      ≡ list_any (nat_eq t) (filter (λ v. W (task_at u.tasks v)) u.order)
  same-members W none blind t =
      any-filter (λ v. W (task_at s.tasks v)) t s.order
      ∙ (in_order-told s a W none t
      ∙ (ap (λ (c : Bool). c && is_in_order (task_at s.tasks t)) (blind t)
      ∙ (ap (λ (c : Bool). W (task_at u.tasks t) && c) (in_order-blind t)
      ∙ (sym (in_order-told u b W none t) ∙ sym (any-filter (λ v. W (task_at u.tasks v)) t u.order)))))

  -- and each of them passes it
  member-passes : (W : TaskBlock → Bool) (t : ℕ) → list_any (nat_eq t) (filter (λ v. W (task_at s.tasks v)) s.order)
      ≡ true
      → W (task_at s.tasks t) ≡ true
  member-passes W t h =
      (both-true (W (task_at s.tasks t)) (list_any (nat_eq t) s.order) (sym
      (any-filter (λ v. W (task_at s.tasks v)) t s.order) ∙ h)).0

  also : IsOrder (length s.tasks) u.order
  also = subst (λ (n : ℕ). IsOrder n u.order) (sym (blocks-long s.clock u.clock s.tasks u.tasks blocks)) b.distinct

  waits-told : (q : WaitQueue) → wait_queue sys s q ≡ wait_queue sys u q
  waits-told q =
      let o = order_of sys q in
      lists-told (length s.tasks) (wait_queue sys s q) (wait_queue sys u q)
      (IsOrder-queue o (priority_in s.tasks) (λ v. waits_in q (task_at s.tasks v)) (length s.tasks) s.order a.distinct)
      (IsOrder-queue o (priority_in u.tasks) (λ v. waits_in q (task_at u.tasks v)) (length s.tasks) u.order also)
      (λ t. any-arranged o (nat_eq t) (priority_in s.tasks) (filter (λ v. waits_in q (task_at s.tasks v)) s.order)
      ∙ (same-members (waits_in q) refl (waits-blind q) t
      ∙ sym (any-arranged o (nat_eq t) (priority_in u.tasks) (filter (λ v. waits_in q (task_at u.tasks v)) u.order))))
      (λ t h. told t (member-passes (waits_in q) t
      (sym (any-arranged o (nat_eq t) (priority_in s.tasks) (filter (λ v. waits_in q (task_at s.tasks v)) s.order))
      ∙ h))) where
        told : (t : ℕ) → waits_in q (task_at s.tasks t) ≡ true → follower t (wait_queue sys s q)
            ≡ follower t (wait_queue sys u q)
        told t e =
            ap (λ (l : List ℕ). follower t l) (sym (waits-held sys s q t e))
            ∙ (behind t ∙ ap (λ (l : List ℕ). follower t l) (waits-held sys u q t (sym (waits-blind q t) ∙ e)))

  ready-told : (p priority : ℕ) → standing sys s (Place.ReadyAt p priority) ≡ standing sys u (Place.ReadyAt p priority)
  ready-told p priority =
      let W : TaskBlock → Bool = λ x. stands_at sys (Place.ReadyAt p priority) x in
      lists-told (length s.tasks) (standing sys s (Place.ReadyAt p priority))
      (standing sys u (Place.ReadyAt p priority))
      (IsOrder-queue Fifo (priority_in s.tasks) (λ v. W (task_at s.tasks v)) (length s.tasks) s.order a.distinct)
      (IsOrder-queue Fifo (priority_in u.tasks) (λ v. W (task_at u.tasks v)) (length s.tasks) u.order also)
      (λ t. same-members (stands_at sys (Place.ReadyAt p priority)) refl (stands-blind (Place.ReadyAt p priority)) t)
      (λ t h. told t (member-passes (stands_at sys (Place.ReadyAt p priority)) t h)) where
        told : (t : ℕ) → stands_at sys (Place.ReadyAt p priority) (task_at s.tasks t) ≡ true
            → follower t (standing sys s (Place.ReadyAt p priority))
            ≡ follower t (standing sys u (Place.ReadyAt p priority))
        told t e =
            ap (λ (l : List ℕ). follower t l) (sym (ready-held sys s p priority t e))
            ∙ (behind t
            ∙ ap (λ (l : List ℕ). follower t l) (ready-held sys u p priority t
            (sym (stands-blind (Place.ReadyAt p priority) t) ∙ e)))

  priority-blind : (t : ℕ) → priority_in s.tasks t ≡ priority_in u.tasks t
  priority-blind t =
      let k = blocks-at s.clock u.clock s.tasks u.tasks blocks t in ap (λ (z : TaskBlock). z.priority) k.rest

  always : (c d : Bool) → (c && (d || true)) ≡ c
  always true true = refl
  always true false = refl
  always false d = refl

  plainly : (c d : Bool) → (c && (d || false)) ≡ (c && d)
  plainly true true = refl
  plainly true false = refl
  plainly false d = refl

  fifo-part : (v : KernelState) (q : WaitQueue) (priority : ℕ)
      → filter (λ t. waits_in q (task_at v.tasks t) && (nat_eq (priority_in v.tasks t) priority || true)) v.order
      ≡ filter (λ t. waits_in q (task_at v.tasks t)) v.order
  fifo-part v q priority = filter_agree _ _ (λ t. always (waits_in q (task_at v.tasks t))
      (nat_eq (priority_in v.tasks t) priority)) v.order

  sorted-part : (v : KernelState) (q : WaitQueue) (priority : ℕ)
      → filter (λ t. waits_in q (task_at v.tasks t) && (nat_eq (priority_in v.tasks t) priority || false)) v.order
      ≡ filter (λ t. nat_eq (priority_in v.tasks t) priority) (sorted (priority_in v.tasks)
      (filter (λ t. waits_in q (task_at v.tasks t)) v.order))
  sorted-part v q priority =
      filter_agree _ _ (λ t. plainly (waits_in q (task_at v.tasks t)) (nat_eq (priority_in v.tasks t) priority)) v.order
      ∙ (sym (filter-both (λ t. nat_eq (priority_in v.tasks t) priority) (λ t. waits_in q (task_at v.tasks t)) v.order)
      ∙ sym (of-sorted (priority_in v.tasks) priority (filter (λ t. waits_in q (task_at v.tasks t)) v.order)))

  parts-told : (o : QueueOrder) (q : WaitQueue) (priority : ℕ)
      → arranged o (priority_in s.tasks) (filter (λ t. waits_in q (task_at s.tasks t)) s.order)
      ≡ arranged o (priority_in u.tasks) (filter (λ t. waits_in q (task_at u.tasks t)) u.order)
      → filter (λ t. waits_in q (task_at s.tasks t) && (nat_eq (priority_in s.tasks t) priority
      || not (is_by_priority o))) s.order
      ≡ filter (λ t. waits_in q (task_at u.tasks t) && (nat_eq (priority_in u.tasks t) priority
      || not (is_by_priority o))) u.order
  parts-told Fifo q priority h = fifo-part s q priority ∙ (h ∙ sym (fifo-part u q priority))
  parts-told Priority q priority h =
      sorted-part s q priority
      ∙ (ap (λ (l : List ℕ). filter (λ t. nat_eq (priority_in s.tasks t) priority) l) h
      ∙ (filter_agree _ _ (λ t. ap (λ (n : ℕ). nat_eq n priority) (priority-blind t))
      (sorted (priority_in u.tasks) (filter (λ t. waits_in q (task_at u.tasks t)) u.order))
      ∙ sym (sorted-part u q priority)))

  order-told : (c : Place) → standing sys s c ≡ standing sys u c
  order-told (Place.ReadyAt p priority) = ready-told p priority
  order-told (Place.WaitsAt q priority) = parts-told (order_of sys q) q priority (waits-told q)

pub alike-told : (sys : SystemTables) (s u : KernelState) → IsOrderly s → IsOrderly u
    → SameBlocks s.clock u.clock s.tasks u.tasks
    → ((t : ℕ) → task_behind sys s t ≡ task_behind sys u t) → SameTimes s.clock u.clock s.due_times u.due_times
    → untimed s ≡ untimed u → AlikeStates sys s u
alike-told sys s u a b blocks behind times rest =
    record { tasks = blocks; order = λ c. order-told sys s u a b blocks behind c; due_times = times; rest = rest }

-- beyond the tasks nobody stands behind anybody
pub beyond-behind : (sys : SystemTables) (s : KernelState) (t : ℕ) → length s.tasks ≤ t → task_behind sys s t ≡ None
beyond-behind sys s t l =
    ap (λ (x : TaskBlock). follower t (cond (is_ready x) (filter (λ v. nat_eq (priority_in s.tasks v) x.priority)
    (ready_queue s x.processor))
    (waiting_there sys s (queue_of x.phase)))) (beyond s.tasks t l)
