-- A processor that is not marked stays at rest where tasks of other processors move.
use Rattle.std.proofs.Common.{◌≡◌, ◌≢◌, ℕ, zero, suc, ◌+◌, ◌-◌, ◌*◌, ◌<◌, ◌≤◌, List, [], ◌∷◌, length, Option, Some}
use Rattle.std.proofs.Common.{None, Bool, true, false, nat_eq, refl, ap, ◌∙◌, sym, subst, arith, replicate}
use Rattle.std.specs.Prelude.{slice_set, slice_index_or, if◌then◌else◌}
use Rattle.std.proofs.Math.ListN.{length-set}
use Rattle.std.proofs.lemmas.List.{get_or-set_other}
use Rattle.fmp_base.specs.declared.states.Processor.{Processor}
use Rattle.fmp_base.specs.declared.states.TaskBlock.{TaskBlock}
use Rattle.fmp_base.specs.declared.states.WaitQueue.{WaitQueue}
use Rattle.fmp_base.specs.declared.systems.QueueOrder.{QueueOrder}
use Rattle.fmp_base.specs.MailboxCalls.{enqueued}
use Rattle.fmp_base.specs.Queues.{is_ready, queue_of}
use Rattle.fmp_base.specs.Settles.{is_same_task}
use Rattle.fmp_base.specs.States.{without}
use Rattle.fmp_base.specs.Systems.{SystemTables}
use Rattle.fmp_ready.specs.ReadyLists.{first_from, first_or, most_urgent, queue_at, head as ready_head}
use Rattle.fmp_ring.specs.OrderLaws.{nat_apart, nat_same}
use Rattle.fmp_ring.specs.RingLists.{RingLists, list_at}
use Rattle.fmp_spin.specs.Pending.{PendingMarks}
use Rattle.fmp_spin.specs.Processors.{processor_in}
use Rattle.fmp_waitq.specs.declared.queues.WaitQueues.{WaitQueues}
use Rattle.fmp_waitq.specs.WaitLists.{head}
use Rattle.fmp_tasks.specs.Homes.{Fits, home, joined_to, left_from, wait_home}
use Rattle.fmp_tasks.specs.Marks.{AreAtRest, IsAtRest}

-- all are marked
pub all-marked : (n p : ℕ) → slice_index_or (replicate n true) p true ≡ true
all-marked zero p = refl
all-marked (suc n) zero = refl
all-marked (suc n) (suc p) = all-marked n p

-- a processor that is not marked where another one was marked is another one, and was not marked
set-marked : (marked : List Bool) (p q : ℕ) → slice_index_or (slice_set marked p true) q true ≡ false
    → (q ≢ p) × (slice_index_or marked q true ≡ false)
set-marked [] p q e = cc
set-marked (b ∷ bs) zero zero e = cc
set-marked (b ∷ bs) zero (suc q) e = let other : suc q ≢ 0 = omega arith in (other, e)
set-marked (b ∷ bs) (suc p) zero e = let other : 0 ≢ suc p = omega arith in (other, e)
set-marked (b ∷ bs) (suc p) (suc q) e =
    let rest = set-marked bs p q e in
    let other : q ≢ p = rest.0 in
    let next : suc q ≢ suc p = omega arith in (next, rest.1)

first_from-same : (f g : ℕ → List ℕ) (from n : ℕ) → ((k : ℕ) → from ≤ k → k < from + n → f k ≡ g k)
    → first_from f from n ≡ first_from g from n
first_from-same f g from zero same = refl
first_from-same f g from (suc n) same =
    ap (λ (xs : List ℕ). first_or xs (first_from f (from + 1) n)) (same from (omega arith) (omega arith))
    ∙ ap (first_or (g from)) (first_from-same f g (from + 1) n (λ k a b. same k (omega arith) (omega arith)))

-- a place that is none of the ready queues of p
abbrev pub IsElsewhere : Option ℕ → ℕ → Type 0
IsElsewhere None p = Unit {0}
IsElsewhere (Some h) p = (k : ℕ) → k < 16 → p * 16 + k ≢ h

most_urgent-elsewhere : (r : RingLists) (h : ℕ) (l : List ℕ) (p : ℕ) → IsElsewhere (Some h) p
    → most_urgent (record r { lists = slice_set r.lists h l }) p ≡ most_urgent r p
unfolding most_urgent
most_urgent-elsewhere r h l p other =
    first_from-same (queue_at (record r { lists = slice_set r.lists h l }) p) (queue_at r p) 1 16
    (λ k a b. get_or-set_other r.lists h (ready_head p k) l [] (other (k - 1) (omega arith)))

wait_home-elsewhere : (w : WaitQueues) (o : Option WaitQueue) (p : ℕ) → p < w.processors → IsElsewhere (wait_home w o) p
wait_home-elsewhere w None p l = tt
wait_home-elsewhere w (Some q) p l = λ k m. let other : p * 16 + k ≢ head w q = omega arith in other

-- the home of a task of another processor
home-elsewhere : (w : WaitQueues) (sys : SystemTables) (x : TaskBlock) (p : ℕ) → Fits sys x → p < w.processors
    → p ≢ x.processor
    → IsElsewhere (home w x) p
home-elsewhere w sys x p f l ne = by_test (is_ready x) where
  by_test : (b : Bool)
      → IsElsewhere (if b then Some (ready_head x.processor x.priority) else wait_home w (queue_of x.phase)) p
  by_test true =
      let low : 1 ≤ x.priority = f.urgent in
      let high : x.priority ≤ 16 = f.least in
      λ k m. let other : p * 16 + k ≢ ready_head x.processor x.priority = omega arith in other
  by_test false = wait_home-elsewhere w (queue_of x.phase) p l

left-elsewhere : (r : RingLists) (o : Option ℕ) (t p : ℕ) → IsElsewhere o p
    → most_urgent (record r { lists = left_from r.lists o t }) p ≡ most_urgent r p
left-elsewhere r None t p other = refl
left-elsewhere r (Some h) t p other = most_urgent-elsewhere r h (without (list_at r.lists h) t) p other

joined-elsewhere : (by : ℕ → QueueOrder) (f : ℕ → ℕ) (r : RingLists) (o : Option ℕ) (t p : ℕ) → IsElsewhere o p
    → most_urgent (record r { lists = joined_to by f r.lists o t }) p ≡ most_urgent r p
joined-elsewhere by f r None t p other = refl
joined-elsewhere by f r (Some h) t p other = most_urgent-elsewhere r h (enqueued (by h) f t (list_at r.lists h)) p other

-- a processor whose most urgent ready task is the same is still at rest
still : (cpus : List Processor) (old new : RingLists) (pending : PendingMarks) (p : ℕ) → most_urgent new p
    ≡ most_urgent old p
    → IsAtRest cpus old pending p → IsAtRest cpus new pending p
still cpus old new pending p e rest = record {
  none = rest.none;
  same = ap (λ (o : Option ℕ). is_same_task (processor_in cpus p).run o) e ∙ rest.same;
}

-- a task leaves its queue, on a processor that is marked
pub at_rest_left : (marked : List Bool) (cpus : List Processor) (r : RingLists) (pending : PendingMarks)
    (w : WaitQueues)
    (sys : SystemTables) (x : TaskBlock) (t : ℕ) → AreAtRest marked cpus r pending → w.processors ≡ length cpus
    → Fits sys x
    → AreAtRest (slice_set marked x.processor true) cpus (record r { lists = left_from r.lists (home w x) t }) pending
at_rest_left marked cpus r pending w sys x t rest same f = record {
  each =
      λ p l e. let parts = set-marked marked x.processor p e in
      let ne : p ≢ x.processor = parts.0 in
      let there : p < w.processors = subst (λ (n : ℕ). p < n) (sym same) l in
      still cpus r (record r { lists = left_from r.lists (home w x) t }) pending p
      (left-elsewhere r (home w x) t p (home-elsewhere w sys x p f there ne)) (rest.each p l parts.1);
}

-- a task joins its queue, on a processor that is marked
pub at_rest_joined : (by : ℕ → QueueOrder) (f : ℕ → ℕ) (marked : List Bool) (cpus : List Processor) (r : RingLists)
    (pending : PendingMarks) (w : WaitQueues) (sys : SystemTables) (x : TaskBlock) (t : ℕ)
    → AreAtRest marked cpus r pending
    → w.processors ≡ length cpus → Fits sys x
    → AreAtRest (slice_set marked x.processor true) cpus (record r { lists = joined_to by f r.lists (home w x) t })
    pending
at_rest_joined by f marked cpus r pending w sys x t rest same fits = record {
  each =
      λ p l e. let parts = set-marked marked x.processor p e in
      let ne : p ≢ x.processor = parts.0 in
      let there : p < w.processors = subst (λ (n : ℕ). p < n) (sym same) l in
      still cpus r (record r { lists = joined_to by f r.lists (home w x) t }) pending p
      (joined-elsewhere by f r (home w x) t p (home-elsewhere w sys x p fits there ne)) (rest.each p l parts.1);
}

-- a ready queue of a processor that is marked changes
pub at_rest_queue : (marked : List Bool) (cpus : List Processor) (r : RingLists) (pending : PendingMarks)
    (q priority : ℕ)
    (l : List ℕ) → AreAtRest marked cpus r pending → 1 ≤ priority → priority ≤ 16
    → AreAtRest (slice_set marked q true) cpus (record r { lists = slice_set r.lists (ready_head q priority) l })
    pending
at_rest_queue marked cpus r pending q priority l rest low high = record {
  each =
      λ p m e. let parts = set-marked marked q p e in
      let ne : p ≢ q = parts.0 in
      still cpus r (record r { lists = slice_set r.lists (ready_head q priority) l }) pending p
      (most_urgent-elsewhere r (ready_head q priority) l p
      (λ k b. let other : p * 16 + k ≢ ready_head q priority = omega arith in other)) (rest.each p m parts.1);
}

-- the processors run what they ran
pub at_rest_runs : (marked : List Bool) (old new : List Processor) (r : RingLists) (pending : PendingMarks)
    → length new ≡ length old → ((p : ℕ) → (processor_in new p).run ≡ (processor_in old p).run)
    → AreAtRest marked old r pending → AreAtRest marked new r pending
at_rest_runs marked old new r pending long runs rest = record {
  each =
      λ p l e. let was = rest.each p (subst (λ (n : ℕ). p < n) long l) e in
      record {
        none = was.none;
        same = ap (λ (o : Option ℕ). is_same_task o (most_urgent r p)) (runs p) ∙ was.same;
      };
}

set_other : (cpus : List Processor) (p q : ℕ) (x : Processor) → p ≢ q
    → processor_in (slice_set cpus q x) p ≡ processor_in cpus p
set_other [] p q x e = refl
set_other (y ∷ ys) zero zero x e = absurd (e refl)
set_other (y ∷ ys) zero (suc q) x e = refl
set_other (y ∷ ys) (suc p) zero x e = refl
set_other (y ∷ ys) (suc p) (suc q) x e = let other : p ≢ q = omega arith in set_other ys p q x other

-- a processor that is marked becomes another
pub at_rest_set : (marked : List Bool) (cpus : List Processor) (r : RingLists) (pending : PendingMarks) (q : ℕ)
    (x : Processor)
    → AreAtRest marked cpus r pending → AreAtRest (slice_set marked q true) (slice_set cpus q x) r pending
at_rest_set marked cpus r pending q x rest = record {
  each =
      λ p l e. let parts = set-marked marked q p e in
      let was = rest.each p (rw length-set at l) parts.1 in
      record {
        none = was.none;
        same =
            ap (λ (c : Processor). is_same_task c.run (most_urgent r p)) (set_other cpus p q x parts.0)
            ∙ was.same;
      };
}

-- all are marked
pub at_rest_all : (cpus : List Processor) (r : RingLists) (pending : PendingMarks)
    → AreAtRest (replicate 8 true) cpus r pending
at_rest_all cpus r pending = record { each = λ p l e. let yes = all-marked 8 p in cc }

set-unmarked : (marked : List Bool) (p q : ℕ) → slice_index_or (slice_set marked p false) q true ≡ false → q ≢ p
    → slice_index_or marked q true ≡ false
set-unmarked [] p q e d = e
set-unmarked (b ∷ bs) zero zero e d = absurd (d refl)
set-unmarked (b ∷ bs) zero (suc q) e d = e
set-unmarked (b ∷ bs) (suc p) zero e d = e
set-unmarked (b ∷ bs) (suc p) (suc q) e d = let other : q ≢ p = omega arith in set-unmarked bs p q e other

-- a processor that is at rest is no longer marked
pub at_rest_unmarked : (marked : List Bool) (cpus : List Processor) (r : RingLists) (pending : PendingMarks) (q : ℕ)
    → AreAtRest marked cpus r pending → IsAtRest cpus r pending q → AreAtRest (slice_set marked q false) cpus r pending
at_rest_unmarked marked cpus r pending q rest here = record {
  each = λ p l e. by_test p l e (nat_eq p q) refl;
} where
  by_test : (p : ℕ) → p < length cpus → slice_index_or (slice_set marked q false) p true ≡ false → (b : Bool)
      → nat_eq p q ≡ b
      → IsAtRest cpus r pending p
  by_test p l e true d = subst (λ (n : ℕ). IsAtRest cpus r pending n) (sym (nat_same p q d)) here
  by_test p l e false d = rest.each p l (set-unmarked marked q p e (nat_apart p q d))
