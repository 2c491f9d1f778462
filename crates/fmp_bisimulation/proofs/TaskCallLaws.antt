-- The service calls on tasks come to the same in alike states.
use Rattle.std.proofs.Common.{◌≡◌, ◌+◌, ◌^◌, ℕ, zero, suc, ℤ, pos, Option, Some, None, Bool, true, false, ◌&&◌, ◌||◌}
use Rattle.std.proofs.Common.{not, refl, sym, ap, subst, nat_eq, nat_lt}
use Rattle.std.proofs.lemmas.Bool.{eqb-true}
use Rattle.fmp_base.specs.declared.codes.Er.TheVariants as er
use Rattle.fmp_base.specs.declared.states.Phase.{Phase}
use Rattle.fmp_base.specs.declared.states.Phase.TheVariants.{Dormant, Ready, Waiting}
use Rattle.fmp_base.specs.declared.states.TaskBlock.{TaskBlock}
use Rattle.fmp_base.specs.declared.states.TimeLimit.{TimeLimit}
use Rattle.fmp_base.specs.declared.states.WaitCause.{WaitCause}
use Rattle.fmp_base.specs.declared.states.WaitCause.TheVariants as cause
use Rattle.fmp_base.specs.declared.states.WaitQueue.{WaitQueue}
use Rattle.fmp_base.specs.declared.states.WaitQueue.TheVariants as queue
use Rattle.fmp_base.specs.declared.systems.QueueOrder.{QueueOrder}
use Rattle.fmp_base.specs.Outcomes.{code, succeeds_in, limit_of, numbered, ranged}
use Rattle.fmp_base.specs.Queues.{is_by_priority, is_queue, is_ready, is_same_queue, order_of, queue_of}
use Rattle.fmp_base.specs.Queues.{stands_by_priority, first_ready}
use Rattle.fmp_base.specs.States.{KernelState, unchanged, clock_after, task_at, with_task}
use Rattle.fmp_base.specs.Systems.{SystemTables, task_config}
use Rattle.fmp_base.specs.TaskCalls.{is_dormant, activation_queued, activated_by, activated, act_tsk, iact_tsk}
use Rattle.fmp_base.specs.TaskCalls.{activations_cancelled, can_act, terminated, ter_tsk, goes_last, moved_by}
use Rattle.fmp_base.specs.TaskCalls.{or_if_zero, priority_changed, chg_pri, get_pri, allowed_processor}
use Rattle.fmp_base.specs.TaskCalls.{activation_queued_on, activated_on_by, mact_tsk, assigned_by, mig_tsk, slept_by}
use Rattle.fmp_base.specs.TaskCalls.{slp_tsk, tslp_tsk, wakeup_queued, woken_from, woken_by, woken, wup_tsk, iwup_tsk}
use Rattle.fmp_base.specs.TaskCalls.{can_wup, released_by, rel_wai, sus_tsk, resumed_by, rsm_tsk, dly_tsk, rotated}
use Rattle.fmp_base.specs.TaskCalls.{rot_rdq, irot_rdq, mrot_rdq, get_tid}
use Rattle.fmp_bisimulation.specs.Alike.{SameBlock, AlikeStates, SameOutcome, Place, stands_at}
use Rattle.fmp_bisimulation.proofs.ChangeLaws.{unchanged-same, same-but, started-same, ended-same, released-same}
use Rattle.fmp_bisimulation.proofs.ChangeLaws.{suspended-same, suspension-same, stays-counts}
use Rattle.fmp_bisimulation.proofs.OutcomeLaws.{IsSeenAs, succeeds-same, succeeds_in-same, gives-same, either-same}
use Rattle.fmp_bisimulation.proofs.OutcomeLaws.{refused-same, tested-same, refused_if-same, waits-same}
use Rattle.fmp_bisimulation.proofs.OutcomeLaws.{waits_within-same, on_self-same, on_number-same}
use Rattle.fmp_bisimulation.proofs.ReadLaws.{first_ready-same}
use Rattle.fmp_bisimulation.proofs.StateLaws.{Stays, View, seen, alike-with_task, alike-with_last}
use Rattle.fmp_bisimulation.proofs.TimeLaws.{blocks-at, same-after}

-- what is not so is not, whatever follows
not-both : (a b c d e : Bool) → a ≡ false → ((a && b) && c) ≡ ((a && d) && e)
not-both false b c d e h = refl
not-both true b c d e h = cc

none-so : (a b : Bool) → (a || b) ≡ false → (a ≡ false) × (b ≡ false)
none-so false false h = (refl, refl)
none-so false true h = cc
none-so true b h = cc

same_queue-order : (sys : SystemTables) (q r : WaitQueue) → is_same_queue q r ≡ true → order_of sys q ≡ order_of sys r
same_queue-order sys (queue.Semaphore a) (queue.Semaphore b) e = ap (λ (i : ℕ). order_of sys (queue.Semaphore i))
    (eqb-true a b e)
same_queue-order sys (queue.Flag a) (queue.Flag b) e = ap (λ (i : ℕ). order_of sys (queue.Flag i)) (eqb-true a b e)
same_queue-order sys (queue.Senders a) (queue.Senders b) e = ap (λ (i : ℕ). order_of sys (queue.Senders i))
    (eqb-true a b e)
same_queue-order sys (queue.Receivers a) (queue.Receivers b) e = refl
same_queue-order sys (queue.Mailbox a) (queue.Mailbox b) e = ap (λ (i : ℕ). order_of sys (queue.Mailbox i))
    (eqb-true a b e)
same_queue-order sys q r e = cc

-- where a queue is not by priority, the priority of one who waits there is not looked at
unsorted-same : (sys : SystemTables) (q : WaitQueue) (o : Option WaitQueue) (a b : Bool) → stands_by_priority sys o
    ≡ false
    → (is_queue q o && (a || not (is_by_priority (order_of sys q))))
    ≡ (is_queue q o && (b || not (is_by_priority (order_of sys q))))
unsorted-same sys q None a b h = refl
unsorted-same sys q (Some r) a b h = by_test (is_same_queue q r) refl where
  always : (c d : Bool) → (c || not d) ≡ (c || not d)
  always c d = refl

  plain : (a b c : Bool) → c ≡ false → (a || not c) ≡ (b || not c)
  plain true true c e = refl
  plain false false c e = refl
  plain true false false e = refl
  plain false true false e = refl
  plain true false true e = cc
  plain false true true e = cc

  by_test : (c : Bool) → is_same_queue q r ≡ c
      → (c && (a || not (is_by_priority (order_of sys q)))) ≡ (c && (b || not (is_by_priority (order_of sys q))))
  by_test false e = refl
  by_test true e =
      let first_come : is_by_priority (order_of sys q) ≡ false =
      subst (λ (o : QueueOrder). is_by_priority o ≡ false) (sym (same_queue-order sys q r e)) h in
      plain a b (is_by_priority (order_of sys q)) first_come

-- a task that is neither ready nor in a queue by priority stands where it does at each priority
stays-priority : (sys : SystemTables) (x : TaskBlock) (n : ℕ) → goes_last sys x ≡ false
    → Stays sys x (record x { priority = n })
stays-priority sys x n h c = by_place c where
  by_place : (c : Place) → stands_at sys c x ≡ stands_at sys c (record x { priority = n })
  by_place (Place.ReadyAt p priority) =
      let parts = none-so (is_ready x) (stands_by_priority sys (queue_of x.phase)) h in
      not-both (is_ready x) (nat_eq x.processor p) (nat_eq x.priority priority) (nat_eq x.processor p)
      (nat_eq n priority) parts.0
  by_place (Place.WaitsAt q priority) =
      let parts = none-so (is_ready x) (stands_by_priority sys (queue_of x.phase)) h in
      unsorted-same sys q (queue_of x.phase) (nat_eq x.priority priority) (nat_eq n priority) parts.1

-- and one that is not ready on each processor
stays-processor : (sys : SystemTables) (x : TaskBlock) (n : ℕ) → is_ready x ≡ false
    → Stays sys x (record x { processor = n })
stays-processor sys x n h c = by_place c where
  by_place : (c : Place) → stands_at sys c x ≡ stands_at sys c (record x { processor = n })
  by_place (Place.ReadyAt p priority) =
      not-both (is_ready x) (nat_eq x.processor p) (nat_eq x.priority priority) (nat_eq n p)
      (nat_eq x.priority priority) h
  by_place (Place.WaitsAt q priority) = refl

module _ (sys : SystemTables) (s : KernelState) (v : View) (h : AlikeStates sys s (seen s v)) where
  counted-same : (t : ℕ) (x : TaskBlock) (d : Option ℕ) (activations : ℕ) (next : Option ℕ) (wakeups : ℕ)
      → IsSeenAs s (seen s v) t x d
      → AlikeStates sys (with_task s t (record x {
        activations = activations;
        next_processor = next;
        wakeups = wakeups;
      }))
      (with_task (seen s v) t (record x {
        activations = activations;
        next_processor = next;
        wakeups = wakeups;
        deadline = d;
      }))
  counted-same t x d activations next wakeups k =
      let y = record x { activations = activations; next_processor = next; wakeups = wakeups } in
      alike-with_task sys s (seen s v) t _ _ h (same-but s.clock v.clock y x.deadline d k.time)
      (subst (λ (z : TaskBlock). Stays sys z y) (sym k.there) (stays-counts sys x activations next wakeups))

  activation_queued-same : (t : ℕ) (x : TaskBlock) (d : Option ℕ) → IsSeenAs s (seen s v) t x d
      → SameOutcome sys (activation_queued sys s t x) (activation_queued sys (seen s v) t (record x { deadline = d }))
  activation_queued-same t x d k =
      either-same sys (nat_lt x.activations sys.queue_limit) _ _ _ _
      (succeeds_in-same sys _ _ (counted-same t x d (x.activations + 1) x.next_processor x.wakeups k))
      (refused-same sys s (seen s v) h er.Qovr)

  activated_by-same : (p : Phase) (t : ℕ) (x : TaskBlock) (d : Option ℕ) → IsSeenAs s (seen s v) t x d
      → SameOutcome sys (activated_by p sys s t x) (activated_by p sys (seen s v) t (record x { deadline = d }))
  activated_by-same Dormant t x d k =
      succeeds-same sys _ _ (started-same sys (unchanged s) (unchanged (seen s v)) t x d
      (unchanged-same sys s (seen s v) h))
  activated_by-same Ready t x d k = activation_queued-same t x d k
  activated_by-same (Waiting w) t x d k = activation_queued-same t x d k

  pub act_tsk-same : (me : ℕ) (t : ℤ) → SameOutcome sys (act_tsk sys s me t) (act_tsk sys (seen s v) me t)
  act_tsk-same me t =
      on_self-same sys s (seen s v) h me t (activated sys s) (activated sys (seen s v))
      (λ u x d k. activated_by-same x.phase u x d k)

  pub iact_tsk-same : (t : ℤ) → SameOutcome sys (iact_tsk sys s t) (iact_tsk sys (seen s v) t)
  iact_tsk-same t =
      on_number-same sys s (seen s v) h t (activated sys s) (activated sys (seen s v))
      (λ u x d k. activated_by-same x.phase u x d k)

  pub can_act-same : (me : ℕ) (t : ℤ) → SameOutcome sys (can_act s me t) (can_act (seen s v) me t)
  can_act-same me t =
      on_self-same sys s (seen s v) h me t (activations_cancelled s) (activations_cancelled (seen s v))
      (λ u x d k. gives-same sys (pos x.activations) _ _ (unchanged-same sys _ _
      (counted-same u x d 0 None x.wakeups k)))

  pub ter_tsk-same : (p me : ℕ) (t : ℤ) → SameOutcome sys (ter_tsk sys s p me t) (ter_tsk sys (seen s v) p me t)
  ter_tsk-same p me t =
      on_number-same sys s (seen s v) h t (terminated sys s p me) (terminated sys (seen s v) p me)
      (λ u x d k. refused_if-same sys s (seen s v) h (nat_eq u me) er.Iluse _ _
      (refused_if-same sys s (seen s v) h (is_dormant x.phase || not (nat_eq x.processor p)) er.Obj _ _
      (succeeds-same sys _ _ (ended-same sys (unchanged s) (unchanged (seen s v)) u x d
      (unchanged-same sys s (seen s v) h)))))

  moved-same : (b : Bool) (t : ℕ) (x y : TaskBlock) → SameBlock s.clock v.clock x y
      → (b ≡ false → Stays sys (task_at s.tasks t) x)
      → AlikeStates sys (moved_by b s t x) (moved_by b (seen s v) t y)
  moved-same true t x y k stays = alike-with_last sys s (seen s v) t x y h k
  moved-same false t x y k stays = alike-with_task sys s (seen s v) t x y h k (stays refl)

  priority_changed-same : (t : ℕ) (x : TaskBlock) (d : Option ℕ) (n : ℕ) → IsSeenAs s (seen s v) t x d
      → SameOutcome sys (priority_changed sys s t x n) (priority_changed sys (seen s v) t (record x { deadline = d }) n)
  priority_changed-same t x d n k =
      let m = or_if_zero (task_config sys t).priority n in
      refused_if-same sys s (seen s v) h (is_dormant x.phase) er.Obj _ _
      (succeeds_in-same sys _ _ (moved-same (goes_last sys x) t _ _
      (same-but s.clock v.clock (record x { priority = m }) x.deadline d k.time)
      (λ e. subst (λ (z : TaskBlock). Stays sys z (record x { priority = m })) (sym k.there)
      (stays-priority sys x m e))))

  pub chg_pri-same : (me : ℕ) (t priority : ℤ) → SameOutcome sys (chg_pri sys s me t priority)
      (chg_pri sys (seen s v) me t priority)
  chg_pri-same me t priority =
      on_self-same sys s (seen s v) h me t _ _
      (λ u x d k. tested-same sys s (seen s v) h er.Par (ranged 0 16 priority) _ _
      (λ n. priority_changed-same u x d n k))

  pub get_pri-same : (me : ℕ) (t : ℤ) → SameOutcome sys (get_pri s me t) (get_pri (seen s v) me t)
  get_pri-same me t =
      on_self-same sys s (seen s v) h me t _ _
      (λ u x d k. refused_if-same sys s (seen s v) h (is_dormant x.phase) er.Obj _ _
      (gives-same sys (pos x.priority) _ _ (unchanged-same sys s (seen s v) h)))

  activation_queued_on-same : (t : ℕ) (x : TaskBlock) (d : Option ℕ) (c : ℕ) → IsSeenAs s (seen s v) t x d
      → SameOutcome sys (activation_queued_on sys s t x c) (activation_queued_on sys (seen s v) t
      (record x { deadline = d }) c)
  activation_queued_on-same t x d c k =
      either-same sys (nat_lt x.activations sys.queue_limit) _ _ _ _
      (succeeds_in-same sys _ _ (counted-same t x d (x.activations + 1) (Some c) x.wakeups k))
      (refused-same sys s (seen s v) h er.Qovr)

  activated_on_by-same : (p : Phase) (t : ℕ) (x : TaskBlock) (d : Option ℕ) (c : ℕ) → IsSeenAs s (seen s v) t x d
      → SameOutcome sys (activated_on_by p sys s t x c) (activated_on_by p sys (seen s v) t
      (record x { deadline = d }) c)
  activated_on_by-same Dormant t x d c k =
      succeeds-same sys _ _
      (started-same sys (unchanged s) (unchanged (seen s v)) t (record x { processor = c }) d
      (unchanged-same sys s (seen s v) h))
  activated_on_by-same Ready t x d c k = activation_queued_on-same t x d c k
  activated_on_by-same (Waiting w) t x d c k = activation_queued_on-same t x d c k

  pub mact_tsk-same : (me : ℕ) (t c : ℤ) → SameOutcome sys (mact_tsk sys s me t c) (mact_tsk sys (seen s v) me t c)
  mact_tsk-same me t c =
      on_self-same sys s (seen s v) h me t _ _
      (λ u x d k. tested-same sys s (seen s v) h er.Par (allowed_processor sys u c) _ _
      (λ n. activated_on_by-same x.phase u x d n k))

  assigned_by-same : (b : Bool) (t : ℕ) (x : TaskBlock) (d : Option ℕ) (c : ℕ) → IsSeenAs s (seen s v) t x d
      → AlikeStates sys (assigned_by b s t x c) (assigned_by b (seen s v) t (record x { deadline = d }) c)
  assigned_by-same true t x d c k = h
  assigned_by-same false t x d c k =
      moved-same (is_ready x) t _ _ (same-but s.clock v.clock (record x { processor = c }) x.deadline d k.time)
      (λ e. subst (λ (z : TaskBlock). Stays sys z (record x { processor = c })) (sym k.there)
      (stays-processor sys x c e))

  pub mig_tsk-same : (p me : ℕ) (t c : ℤ) → SameOutcome sys (mig_tsk sys s p me t c) (mig_tsk sys (seen s v) p me t c)
  mig_tsk-same p me t c =
      on_self-same sys s (seen s v) h me t _ _
      (λ u x d k. tested-same sys s (seen s v) h er.Par (allowed_processor sys u c) _ _
      (λ n. refused_if-same sys s (seen s v) h (is_dormant x.phase || not (nat_eq x.processor p)) er.Obj _ _
      (succeeds_in-same sys _ _ (assigned_by-same (nat_eq x.processor n) u x d n k))))

  wakeup_queued-same : (t : ℕ) (x : TaskBlock) (d : Option ℕ) → IsSeenAs s (seen s v) t x d
      → SameOutcome sys (wakeup_queued sys s t x) (wakeup_queued sys (seen s v) t (record x { deadline = d }))
  wakeup_queued-same t x d k =
      either-same sys (nat_lt x.wakeups sys.queue_limit) _ _ _ _
      (succeeds_in-same sys _ _ (counted-same t x d x.activations x.next_processor (x.wakeups + 1) k))
      (refused-same sys s (seen s v) h er.Qovr)

  woken_from-same : (c : WaitCause) (t : ℕ) (x : TaskBlock) (d : Option ℕ) → IsSeenAs s (seen s v) t x d
      → SameOutcome sys (woken_from c sys s t x) (woken_from c sys (seen s v) t (record x { deadline = d }))
  woken_from-same cause.Sleep t x d k =
      succeeds-same sys _ _
      (released-same sys (unchanged s) (unchanged (seen s v)) t x d (code er.Ok) (unchanged-same sys s (seen s v) h))
  woken_from-same c t x d k = wakeup_queued-same t x d k

  woken_by-same : (p : Phase) (t : ℕ) (x : TaskBlock) (d : Option ℕ) → IsSeenAs s (seen s v) t x d
      → SameOutcome sys (woken_by p sys s t x) (woken_by p sys (seen s v) t (record x { deadline = d }))
  woken_by-same Dormant t x d k = refused-same sys s (seen s v) h er.Obj
  woken_by-same Ready t x d k = wakeup_queued-same t x d k
  woken_by-same (Waiting c) t x d k = woken_from-same c t x d k

  pub wup_tsk-same : (me : ℕ) (t : ℤ) → SameOutcome sys (wup_tsk sys s me t) (wup_tsk sys (seen s v) me t)
  wup_tsk-same me t =
      on_self-same sys s (seen s v) h me t (woken sys s) (woken sys (seen s v))
      (λ u x d k. woken_by-same x.phase u x d k)

  pub iwup_tsk-same : (t : ℤ) → SameOutcome sys (iwup_tsk sys s t) (iwup_tsk sys (seen s v) t)
  iwup_tsk-same t =
      on_number-same sys s (seen s v) h t (woken sys s) (woken sys (seen s v))
      (λ u x d k. woken_by-same x.phase u x d k)

  pub can_wup-same : (me : ℕ) (t : ℤ) → SameOutcome sys (can_wup s me t) (can_wup (seen s v) me t)
  can_wup-same me t =
      on_self-same sys s (seen s v) h me t _ _
      (λ u x d k. refused_if-same sys s (seen s v) h (is_dormant x.phase) er.Obj _ _
      (gives-same sys (pos x.wakeups) _ _
      (unchanged-same sys _ _ (counted-same u x d x.activations x.next_processor 0 k))))

  released_by-same : (p : Phase) (t : ℕ) (x : TaskBlock) (d : Option ℕ)
      → SameOutcome sys (released_by p s t x) (released_by p (seen s v) t (record x { deadline = d }))
  released_by-same Dormant t x d = refused-same sys s (seen s v) h er.Obj
  released_by-same Ready t x d = refused-same sys s (seen s v) h er.Obj
  released_by-same (Waiting c) t x d =
      succeeds-same sys _ _
      (released-same sys (unchanged s) (unchanged (seen s v)) t x d (code er.Rlwai) (unchanged-same sys s (seen s v) h))

  pub rel_wai-same : (t : ℤ) → SameOutcome sys (rel_wai s t) (rel_wai (seen s v) t)
  rel_wai-same t = on_number-same sys s (seen s v) h t _ _ (λ u x d k. released_by-same x.phase u x d)

  pub sus_tsk-same : (me : ℕ) (t : ℤ) → SameOutcome sys (sus_tsk s me t) (sus_tsk (seen s v) me t)
  sus_tsk-same me t =
      on_self-same sys s (seen s v) h me t _ _
      (λ u x d k. refused_if-same sys s (seen s v) h (is_dormant x.phase) er.Obj _ _
      (refused_if-same sys s (seen s v) h x.suspended er.Qovr _ _
      (succeeds_in-same sys _ _ (suspended-same sys s (seen s v) u x d h k.time k.there))))

  resumed_by-same : (t : ℕ) (x : TaskBlock) (d : Option ℕ) → IsSeenAs s (seen s v) t x d → (p : Phase) → x.phase ≡ p
      → AlikeStates sys (resumed_by p s t (record x { suspended = false }))
      (resumed_by p (seen s v) t (record x { suspended = false; deadline = d }))
  resumed_by-same t x d k Dormant e =
      alike-with_last sys s (seen s v) t _ _ h (same-but s.clock v.clock
      (record x { suspended = false }) x.deadline d k.time)
  resumed_by-same t x d k Ready e =
      alike-with_last sys s (seen s v) t _ _ h (same-but s.clock v.clock
      (record x { suspended = false }) x.deadline d k.time)
  resumed_by-same t x d k (Waiting w) e = suspension-same sys s (seen s v) t x d false w h k.time e k.there

  pub rsm_tsk-same : (t : ℤ) → SameOutcome sys (rsm_tsk s t) (rsm_tsk (seen s v) t)
  rsm_tsk-same t =
      on_number-same sys s (seen s v) h t _ _
      (λ u x d k. refused_if-same sys s (seen s v) h (not x.suspended) er.Obj _ _
      (succeeds_in-same sys _ _ (resumed_by-same u x d k x.phase refl)))

  slept_by-same : (n me : ℕ) (x : TaskBlock) (d : Option ℕ) (m : TimeLimit)
      → ((i : ℕ) → n ≡ suc i → IsSeenAs s (seen s v) me x d)
      → SameOutcome sys (slept_by n s me x m) (slept_by n (seen s v) me (record x { deadline = d }) m)
  slept_by-same zero me x d m k = waits_within-same sys s (seen s v) h m me x d cause.Sleep
  slept_by-same (suc n) me x d m k =
      succeeds_in-same sys _ _ (counted-same me x d x.activations x.next_processor n (k n refl))

  -- a caller with a queued wakeup is a task
  pub slp_tsk-same : (me : ℕ) (x : TaskBlock) (d : Option ℕ) (m : TimeLimit)
      → ((i : ℕ) → x.wakeups ≡ suc i → IsSeenAs s (seen s v) me x d)
      → SameOutcome sys (slp_tsk s me x m) (slp_tsk (seen s v) me (record x { deadline = d }) m)
  slp_tsk-same me x d m k = slept_by-same x.wakeups me x d m k

  pub tslp_tsk-same : (me : ℕ) (x : TaskBlock) (d : Option ℕ) (tmout : ℤ)
      → ((i : ℕ) → x.wakeups ≡ suc i → IsSeenAs s (seen s v) me x d)
      → SameOutcome sys (tslp_tsk s me x tmout) (tslp_tsk (seen s v) me (record x { deadline = d }) tmout)
  tslp_tsk-same me x d tmout k =
      tested-same sys s (seen s v) h er.Par (limit_of tmout) (slp_tsk s me x)
      (slp_tsk (seen s v) me (record x { deadline = d }))
      (λ m. slp_tsk-same me x d m k)

  pub dly_tsk-same : (me : ℕ) (x : TaskBlock) (d : Option ℕ) (delay : ℤ)
      → SameOutcome sys (dly_tsk s me x delay) (dly_tsk (seen s v) me (record x { deadline = d }) delay)
  dly_tsk-same me x d delay =
      tested-same sys s (seen s v) h er.Par (ranged 0 (2 ^ 30) delay) _ _
      (λ n. waits-same sys s (seen s v) h me x d cause.Delay (Some (clock_after s n)) (Some (clock_after (seen s v) n))
      (same-after s.clock v.clock n))

  rotated-same : (o : Option ℕ) → AlikeStates sys (rotated s o) (rotated (seen s v) o)
  rotated-same None = h
  rotated-same (Some t) =
      alike-with_last sys s (seen s v) t _ _ h (blocks-at s.clock v.clock s.tasks v.tasks h.tasks t)

  rotation-same : (p priority : ℕ)
      → SameOutcome sys (succeeds_in (rotated s (first_ready s p priority)))
      (succeeds_in (rotated (seen s v) (first_ready (seen s v) p priority)))
  rotation-same p priority =
      succeeds_in-same sys _ _
      (subst (λ (o : Option ℕ). AlikeStates sys (rotated s (first_ready s p priority)) (rotated (seen s v) o))
      (first_ready-same sys s (seen s v) p priority h) (rotated-same (first_ready s p priority)))

  pub rot_rdq-same : (p : ℕ) (x : TaskBlock) (d : Option ℕ) (priority : ℤ)
      → SameOutcome sys (rot_rdq s p x priority) (rot_rdq (seen s v) p (record x { deadline = d }) priority)
  rot_rdq-same p x d priority =
      tested-same sys s (seen s v) h er.Par (ranged 0 16 priority) _ _ (λ n. rotation-same p (or_if_zero x.priority n))

  pub irot_rdq-same : (p : ℕ) (priority : ℤ) → SameOutcome sys (irot_rdq s p priority) (irot_rdq (seen s v) p priority)
  irot_rdq-same p priority =
      tested-same sys s (seen s v) h er.Par (ranged 1 16 priority) _ _ (λ n. rotation-same p n)

  pub mrot_rdq-same : (x : TaskBlock) (d : Option ℕ) (priority c : ℤ)
      → SameOutcome sys (mrot_rdq sys s x priority c) (mrot_rdq sys (seen s v) (record x { deadline = d }) priority c)
  mrot_rdq-same x d priority c =
      tested-same sys s (seen s v) h er.Par (ranged 0 16 priority) _ _
      (λ n. tested-same sys s (seen s v) h er.Par (numbered sys.processors c) _ _
      (λ q. rotation-same q (or_if_zero x.priority n)))

  pub get_tid-same : (me : ℕ) → SameOutcome sys (get_tid s me) (get_tid (seen s v) me)
  get_tid-same me = gives-same sys (pos (me + 1)) _ _ (unchanged-same sys s (seen s v) h)
