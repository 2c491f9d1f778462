-- The first of a ready queue goes to its end.
use Rattle.std.proofs.Common.{◌≡◌, ℕ, zero, suc, ◌*◌, ◌<◌, ◌≤◌, List, [], ◌∷◌, ◌++◌, length, Option, Some, None, Bool}
use Rattle.std.proofs.Common.{true, false, cond, nat_eq, refl, ap, ◌∙◌, sym, subst, arith, map, get_or-set_same}
use Rattle.std.specs.Prelude.{slice_set, not, ◌||◌}
use Rattle.std.specs.List.{filter, list_any}
use Rattle.std.proofs.lemmas.List.{set-set}
use Rattle.fmp_base.specs.declared.states.TaskBlock.{TaskBlock}
use Rattle.fmp_base.specs.declared.systems.QueueOrder.{QueueOrder}
use Rattle.fmp_base.specs.declared.systems.QueueOrder.TheVariants.{Fifo}
use Rattle.fmp_base.specs.MailboxCalls.{enqueued}
use Rattle.fmp_base.specs.Queues.{arranged, first_of, priority_in, is_ready}
use Rattle.fmp_base.specs.States.{task_at, without, to_end}
use Rattle.fmp_base.specs.Systems.{SystemTables}
use Rattle.fmp_ready.specs.ReadyLists.{AreExact, head, queue_at, with_queue}
use Rattle.fmp_ring.specs.OrderLaws.{nat_same, nat_eq-same, nat_eq-flip}
use Rattle.fmp_ring.specs.Orders.{IsOrder}
use Rattle.fmp_ring.specs.RingLists.{RingLists, list_at, rotated}
use Rattle.fmp_waitq.specs.declared.queues.WaitQueues.{WaitQueues}
use Rattle.fmp_tasks.specs.Homes.{home, is_at, is_in_order, joined_to, left_from, order_with_head}
use Rattle.fmp_tasks.specs.Tables.{Sound}
use Rattle.fmp_tasks.proofs.SoundLemmas.{Sound-last, lists-enough}
use Rattle.fmp_tasks.proofs.TopLemmas.{Fits-at, ready_fifo}

filter-head : (p : ℕ → Bool) (l : List ℕ) (u : ℕ) (us : List ℕ) → filter p l ≡ u ∷ us → p u ≡ true
filter-head p [] u us h = cc
filter-head p (y ∷ ys) u us h = by_test (p y) refl h (filter-head p ys u us) where
  by_test : (b : Bool) → p y ≡ b → cond b (y ∷ filter p ys) (filter p ys) ≡ u ∷ us
      → (filter p ys ≡ u ∷ us → p u ≡ true) → p u ≡ true
  by_test true e k rest = let same : y ≡ u = cc in subst (λ (z : ℕ). p z ≡ true) same e
  by_test false e k rest = rest k

absent-filter : (F : ℕ → Bool) (t : ℕ) (l : List ℕ) → list_any (nat_eq t) l ≡ false → list_any (nat_eq t) (filter F l)
    ≡ false
absent-filter F t [] h = refl
absent-filter F t (u ∷ us) h = by_test (nat_eq t u) refl h (λ k. absent-filter F t us k) where
  by_test : (b : Bool) → nat_eq t u ≡ b → (b || list_any (nat_eq t) us) ≡ false
      → (list_any (nat_eq t) us ≡ false → list_any (nat_eq t) (filter F us) ≡ false)
      → list_any (nat_eq t) (cond (F u) (u ∷ filter F us) (filter F us)) ≡ false
  by_test true e k rest = cc
  by_test false e k rest =
      elim (F u) as (λ c. list_any (nat_eq t) (cond c (u ∷ filter F us) (filter F us)) ≡ false) [
        | true ↦ ap (λ (b : Bool). b || list_any (nat_eq t) (filter F us)) e ∙ rest k
        | false ↦ rest k
      ]

IsOrder-filter : (n : ℕ) (F : ℕ → Bool) (l : List ℕ) → IsOrder n l → IsOrder n (filter F l)
IsOrder-filter n F [] h = tt
IsOrder-filter n F (u ∷ us) h =
    let rest = IsOrder-filter n F us h.2 in
    elim (F u) as (λ c. IsOrder n (cond c (u ∷ filter F us) (filter F us))) [
      | true ↦ (h.0, absent-filter F u us h.1, rest)
      | false ↦ rest
    ]

without-absent : (t : ℕ) (l : List ℕ) → list_any (nat_eq t) l ≡ false → without l t ≡ l
without-absent t [] h = refl
without-absent t (u ∷ us) h = by_test (nat_eq t u) refl h (λ k. without-absent t us k) where
  by_test : (b : Bool) → nat_eq t u ≡ b → (b || list_any (nat_eq t) us) ≡ false
      → (list_any (nat_eq t) us ≡ false → without us t ≡ us) → without (u ∷ us) t ≡ u ∷ us
  by_test true e k rest = cc
  by_test false e k rest =
      let f : nat_eq u t ≡ false = nat_eq-flip u t ∙ e in
      ap (λ (b : Bool). cond (not b) (u ∷ without us t) (without us t)) f ∙ ap (λ (l : List ℕ). u ∷ l) (rest k)

without-first : (t : ℕ) (ts : List ℕ) → list_any (nat_eq t) ts ≡ false → without (t ∷ ts) t ≡ ts
without-first t ts h = ap (λ (b : Bool). cond (not b) (t ∷ without ts t) (without ts t)) (nat_eq-same t)
    ∙ without-absent t ts h

-- the first of a list in FIFO order leaves it and joins it again
rotates : (by : ℕ → QueueOrder) (f : ℕ → ℕ) (lists : List (List ℕ)) (h t : ℕ) (ts : List ℕ) → h < length lists
    → list_at lists h ≡ t ∷ ts
    → list_any (nat_eq t) ts ≡ false → by h ≡ Fifo
    → slice_set lists h (rotated (list_at lists h)) ≡ joined_to by f (left_from lists (Some h) t) (Some h) t
rotates by f lists h t ts l e d fifo =
    let w : without (list_at lists h) t ≡ ts = ap (λ (q : List ℕ). without q t) e ∙ without-first t ts d in
    ap (λ (q : List ℕ). slice_set lists h (rotated q)) e
    ∙ sym (set-set lists h ts (ts ++ t ∷ []))
    ∙ ap (λ (q : List ℕ). slice_set (slice_set lists h ts) h (q ++ t ∷ [])) (sym (get_or-set_same lists h ts [] l))
    ∙ ap (λ (o : QueueOrder). slice_set (slice_set lists h ts) h (enqueued o f t (list_at (slice_set lists h ts) h)))
    (sym fifo)
    ∙ ap (λ (q : List ℕ). slice_set (slice_set lists h q) h (enqueued (by h) f t (list_at (slice_set lists h q) h)))
    (sym w)

at_home : (h : ℕ) (o : Option ℕ) → is_at h o ≡ true → o ≡ Some h
at_home h None e = cc
at_home h (Some g) e = ap (λ (k : ℕ). Some k) (nat_same g h e)

pub set-task_at : (tasks : List TaskBlock) (t : ℕ) → slice_set tasks t (task_at tasks t) ≡ tasks
set-task_at [] t = refl
set-task_at (x ∷ xs) zero = refl
set-task_at (x ∷ xs) (suc t) = ap (λ (ys : List TaskBlock). x ∷ ys) (set-task_at xs t)

module _ {sys : SystemTables} {tasks : List TaskBlock} {order ready : List ℕ} {waits : WaitQueues} {rings : RingLists}
    {deadlines : List (Option ℕ)} (k : Sound sys tasks order ready waits rings deadlines) (p priority t : ℕ) where
  module _ (there : p < waits.processors) (urgent : 1 ≤ priority) (least : priority ≤ 16) where
    below : head p priority < length rings.lists
    below = let all : waits.processors * 16 ≤ length rings.lists = lists-enough k in omega arith

    fifo : order_with_head waits sys (head p priority) ≡ Fifo
    fifo = ready_fifo waits sys (head p priority) (omega arith)

    listed : queue_at rings p priority ≡ filter (λ u. is_at (head p priority) (home waits (task_at tasks u))) order
    listed = k.kept.each (head p priority) below
        ∙ ap (λ (by : QueueOrder). arranged by (priority_in tasks) (filter
        (λ u. is_at (head p priority) (home waits (task_at tasks u))) order)) fifo

    lists_after : (ts : List ℕ) → queue_at rings p priority ≡ t ∷ ts
        → with_queue rings p priority (rotated (queue_at rings p priority))
        ≡ record rings {
          lists = joined_to (order_with_head waits sys) (priority_in (slice_set tasks t (task_at tasks t)))
              (left_from rings.lists (home waits (task_at tasks t)) t) (home waits (task_at tasks t)) t;
        }
    lists_after ts e =
        let order_of_list = subst (λ (q : List ℕ). IsOrder (length tasks) q) (sym listed ∙ e)
        (IsOrder-filter (length tasks) _ order k.distinct) in
        let here : home waits (task_at tasks t) ≡ Some (head p priority) = at_home (head p priority) _
        (filter-head _ order t ts (sym listed ∙ e)) in
        ap (λ (ls : List (List ℕ)). with_lists ls)
        (rotates (order_with_head waits sys) (priority_in (slice_set tasks t (task_at tasks t))) rings.lists
        (head p priority) t ts below e order_of_list.1 fifo
        ∙ ap (λ (o : Option ℕ). joined_to (order_with_head waits sys) (priority_in
        (slice_set tasks t (task_at tasks t))) (left_from rings.lists o t) o t) (sym here))
      where
        with_lists : List (List ℕ) → RingLists
        with_lists ls = record rings { lists = ls }

    -- after the first ready task of a priority went to the end
    pub Sound-rotated : (after : RingLists) → t < length tasks → is_ready (task_at tasks t) ≡ true → Some t
        ≡ first_of (queue_at rings p priority)
        → after ≡ with_queue rings p priority (rotated (queue_at rings p priority)) → AreExact ready after
        → Sound sys tasks (to_end order t) ready waits after deadlines
    Sound-rotated after l able e r exact = by_list (queue_at rings p priority) refl e where
      whole : (ts : List ℕ) → queue_at rings p priority ≡ t ∷ ts
          → Sound sys tasks (to_end order t) ready waits after deadlines
      whole ts q =
          let x = task_at tasks t in
          let s = Sound-last k t x l (Fits-at t k.blocks l) x ready after (in_order able) refl refl exact
          (r ∙ lists_after ts q) in
          let same : slice_set tasks t x ≡ tasks = set-task_at tasks t in
          let kept : slice_set deadlines t x.deadline ≡ deadlines =
          s.deadlines_kept ∙ ap (λ (xs : List TaskBlock). map (λ x. x.deadline) xs) same ∙ sym k.deadlines_kept in
          subst (λ (ds : List (Option ℕ)). Sound sys tasks (to_end order t) ready waits after ds) kept
          (subst (λ (xs : List TaskBlock). Sound sys xs (to_end order t) ready waits after
          (slice_set deadlines t x.deadline)) same s)
        where
          in_order : is_ready (task_at tasks t) ≡ true → is_in_order (task_at tasks t) ≡ true
          in_order a = rw a refl

      by_list : (q : List ℕ) → queue_at rings p priority ≡ q → Some t ≡ first_of q
          → Sound sys tasks (to_end order t) ready waits after deadlines
      by_list [] d f = cc
      by_list (u ∷ us) d f = let same : t ≡ u = cc in whole us (subst (λ (v : ℕ). queue_at rings p priority ≡ v ∷ us)
          (sym same) d)
