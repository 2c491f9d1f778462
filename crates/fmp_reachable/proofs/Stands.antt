-- Where tasks stand: who is in a queue, and who leaves the order or joins it.
use Rattle.std.proofs.Common.{◌≡◌, ◌<◌, ℕ, zero, suc, ℤ, pos, negsuc, List, [], ◌∷◌, Some, None, Bool, true, false}
use Rattle.std.proofs.Common.{◌&&◌, ◌||◌, refl, sym, ◌∙◌, ap, subst, arith, nat_eq, nat_le, nat_lt, length, slice_set}
use Rattle.std.proofs.Common.{filter, cond, if◌then◌else◌}
use Rattle.std.specs.List.{AllByRecursion}
use Rattle.std.proofs.lemmas.Bool.{ltb-true}
use Rattle.fmp_base.specs.declared.states.Phase.{Phase}
use Rattle.fmp_base.specs.declared.states.Phase.TheVariants.{Dormant, Ready, Waiting}
use Rattle.fmp_base.specs.declared.states.TaskBlock.{TaskBlock}
use Rattle.fmp_base.specs.declared.states.WaitCause.{WaitCause}
use Rattle.fmp_base.specs.declared.states.WaitQueue.{WaitQueue}
use Rattle.fmp_base.specs.declared.systems.QueueOrder.{QueueOrder}
use Rattle.fmp_base.specs.declared.systems.QueueOrder.TheVariants.{Fifo, Priority}
use Rattle.fmp_base.specs.FlagCalls.{is_satisfied}
use Rattle.fmp_base.specs.Outcomes.{named, numbered}
use Rattle.fmp_base.specs.Queues.{arranged, first_of, first_ready, first_waiting, is_queue, is_ready, is_ready_on}
use Rattle.fmp_base.specs.Queues.{is_ready_phase, order_of, placed, priority_in, queue_of, ready_queue, sorted}
use Rattle.fmp_base.specs.Queues.{stands_by_priority, wait_queue, waits_in}
use Rattle.fmp_base.specs.States.{KernelState, task_at}
use Rattle.fmp_base.specs.Systems.{SystemTables}
use Rattle.fmp_base.specs.TaskCalls.{is_dormant, goes_last}
use Rattle.fmp_ring.specs.OrderLaws.{nat_same}
use Rattle.fmp_tasks.specs.Homes.{is_in_order, is_waiting}
use Rattle.fmp_worlds.proofs.Assigned.{set_same}

-- who is in a queue is there for it

every-filter : (f : ℕ → Bool) (l : List ℕ) → AllByRecursion (λ t. f t ≡ true) (filter f l)
every-filter f [] = tt
every-filter f (t ∷ ts) = by_test (f t) refl (every-filter f ts) where
  by_test : (b : Bool) → f t ≡ b → AllByRecursion (λ u. f u ≡ true) (filter f ts)
      → AllByRecursion (λ u. f u ≡ true) (cond b (t ∷ filter f ts) (filter f ts))
  by_test true e rest = (e, rest)
  by_test false e rest = rest

every-less : (P : ℕ → Type 0) (f : ℕ → Bool) (l : List ℕ) → AllByRecursion P l → AllByRecursion P (filter f l)
every-less P f [] h = tt
every-less P f (t ∷ ts) (h, hs) = by_test (f t) (every-less P f ts hs) where
  by_test : (b : Bool) → AllByRecursion P (filter f ts) → AllByRecursion P (cond b (t ∷ filter f ts) (filter f ts))
  by_test true rest = (h, rest)
  by_test false rest = rest

every-placed : (P : ℕ → Type 0) (f : ℕ → ℕ) (t : ℕ) (l : List ℕ) → P t → AllByRecursion P l
    → AllByRecursion P (placed f t l)
every-placed P f t [] h k = (h, tt)
every-placed P f t (u ∷ us) h (k, ks) = by_test (nat_le (f t) (f u)) (every-placed P f t us h ks) where
  by_test : (b : Bool) → AllByRecursion P (placed f t us) → AllByRecursion P (cond b (t ∷ u ∷ us) (u ∷ placed f t us))
  by_test true rest = (h, (k, ks))
  by_test false rest = (k, rest)

every-arranged : (P : ℕ → Type 0) (o : QueueOrder) (f : ℕ → ℕ) (l : List ℕ) → AllByRecursion P l
    → AllByRecursion P (arranged o f l)
every-arranged P Fifo f l h = h
every-arranged P Priority f [] h = tt
every-arranged P Priority f (t ∷ ts) (h, hs) = every-placed P f t (sorted f ts) h (every-arranged P Priority f ts hs)

every-first : (P : ℕ → Type 0) (l : List ℕ) (t : ℕ) → AllByRecursion P l → first_of l ≡ Some t → P t
every-first P [] t h e = cc
every-first P (u ∷ us) t (h, hs) e = let same : u ≡ t = cc in subst P same h

queued-waits : (q : WaitQueue) (p : Phase) → is_queue q (queue_of p) ≡ true → is_waiting p ≡ true
queued-waits q Dormant e = e
queued-waits q Ready e = e
queued-waits q (Waiting c) e = refl

pub first-waits : (sys : SystemTables) (s : KernelState) (q : WaitQueue) (t : ℕ) → first_waiting sys s q ≡ Some t
    → is_waiting (task_at s.tasks t).phase ≡ true
first-waits sys s q t e =
    let waits : waits_in q (task_at s.tasks t) ≡ true =
    every-first (λ u. waits_in q (task_at s.tasks u) ≡ true) (wait_queue sys s q) t
    (every-arranged (λ u. waits_in q (task_at s.tasks u) ≡ true) (order_of sys q) (priority_in s.tasks)
    (filter (λ u. waits_in q (task_at s.tasks u)) s.order) (every-filter
    (λ u. waits_in q (task_at s.tasks u)) s.order)) e in
    queued-waits q (task_at s.tasks t).phase waits

both-first : (a b : Bool) → (a && b) ≡ true → a ≡ true
both-first true b e = refl
both-first false b e = e

pub first-ready : (s : KernelState) (p priority t : ℕ) → first_ready s p priority ≡ Some t
    → is_ready (task_at s.tasks t) ≡ true
first-ready s p priority t e =
    let on : is_ready_on p (task_at s.tasks t) ≡ true =
    every-first (λ u. is_ready_on p (task_at s.tasks u) ≡ true)
    (filter (λ u. nat_eq (priority_in s.tasks u) priority) (ready_queue s p)) t
    (every-less (λ u. is_ready_on p (task_at s.tasks u) ≡ true) (λ u. nat_eq (priority_in s.tasks u) priority)
    (ready_queue s p)
    (every-filter (λ u. is_ready_on p (task_at s.tasks u)) s.order)) e in
    both-first (is_ready (task_at s.tasks t)) (nat_eq (task_at s.tasks t).processor p) on

-- a task that is not dormant is there
pub there : (tasks : List TaskBlock) (t : ℕ) → is_dormant (task_at tasks t).phase ≡ false → t < length tasks
there [] t e = cc
there (x ∷ xs) zero e = omega arith
there (x ∷ xs) (suc t) e = let l = there xs t e in omega (arith, l)

pub waits-on : (p : Phase) → is_waiting p ≡ true → is_dormant p ≡ false
waits-on Dormant e = sym e
waits-on Ready e = refl
waits-on (Waiting c) e = refl

pub ready-on : (p : Phase) (b : Bool) → (is_ready_phase p && b) ≡ true → is_dormant p ≡ false
ready-on Dormant b e = sym e
ready-on Ready b e = refl
ready-on (Waiting c) b e = refl

pub satisfied-waits : (p : Phase) (bits : ℕ) → is_satisfied p bits ≡ true → is_waiting p ≡ true
satisfied-waits Dormant bits e = e
satisfied-waits Ready bits e = e
satisfied-waits (Waiting c) bits e = refl

pub numbered-there : (n : ℕ) (z : ℤ) (t : ℕ) → numbered n z ≡ Some t → t < n
numbered-there n (pos zero) t e = cc
numbered-there n (pos (suc k)) t e = by_test (nat_lt k n) refl e where
  by_test : (b : Bool) → nat_lt k n ≡ b → (if b then Some k else None) ≡ Some t → t < n
  by_test true l f = let same : k ≡ t = cc in subst (λ (v : ℕ). v < n) same (ltb-true k n l)
  by_test false l f = cc
numbered-there n (negsuc k) t e = cc

pub named-there : (me n : ℕ) (z : ℤ) (t : ℕ) → me < n → named me n z ≡ Some t → t < n
named-there me n (pos zero) t l e = let same : me ≡ t = cc in subst (λ (v : ℕ). v < n) same l
named-there me n (pos (suc k)) t l e = numbered-there n (pos (suc k)) t e
named-there me n (negsuc k) t l e = cc

-- where tasks stand
pub waits-stands : (p : Phase) (a b : Bool) (c : WaitCause) → p ≡ Waiting c
    → ((is_ready_phase p && a) || is_waiting p) ≡ ((is_ready_phase p && b) || is_waiting p)
waits-stands Dormant a b c e = cc
waits-stands Ready a b c e = cc
waits-stands (Waiting d) a b c e = refl

pub ready-leaves : (p : Phase) → p ≡ Ready → ((is_ready_phase p && false) || is_waiting p) ≡ false
ready-leaves Dormant e = cc
ready-leaves Ready e = refl
ready-leaves (Waiting d) e = cc

pub ready-joins : (p : Phase) → p ≡ Ready → ((is_ready_phase p && true) || is_waiting p) ≡ true
ready-joins Dormant e = cc
ready-joins Ready e = refl
ready-joins (Waiting d) e = cc

pub first-true : (a b : Bool) → a ≡ true → (a || b) ≡ true
first-true true b e = refl
first-true false b e = cc

by_queue-stands : (sys : SystemTables) (p : Phase) → stands_by_priority sys (queue_of p) ≡ true → is_waiting p ≡ true
by_queue-stands sys Dormant e = e
by_queue-stands sys Ready e = e
by_queue-stands sys (Waiting c) e = refl

pub goes_last-stands : (sys : SystemTables) (x : TaskBlock) → goes_last sys x ≡ true → is_in_order x ≡ true
goes_last-stands sys x e = by_test (is_ready x) e where
  by_test : (b : Bool) → (b || stands_by_priority sys (queue_of x.phase)) ≡ true → (b || is_waiting x.phase) ≡ true
  by_test true k = refl
  by_test false k = by_queue-stands sys x.phase k

-- a line tells one task, which does not wait
pub said : (tasks : List TaskBlock) (t : ℕ) (y : TaskBlock) → is_waiting y.phase ≡ false → t < length tasks
    → (u : ℕ) → (nat_eq u t || false) ≡ true → is_waiting (task_at (slice_set tasks t y) u).phase ≡ false
said tasks t y w l u e =
    let same : u ≡ t = nat_same u t (plain (nat_eq u t) e) in
    subst (λ (v : ℕ). is_waiting (task_at (slice_set tasks t y) v).phase ≡ false) (sym same)
    (ap (λ (z : TaskBlock). is_waiting z.phase) (set_same (task_at [] 0) tasks t y l) ∙ w) where
      plain : (b : Bool) → (b || false) ≡ true → b ≡ true
      plain true k = refl
      plain false k = k

pub off : {A : Type 0} → false ≡ true → A
off e = absurd (cc e)
