-- Who is in the order, and so in the list of its home.
use Rattle.std.proofs.Common.{◌≡◌, ℕ, ◌<◌, List, [], ◌∷◌, ◌++◌, Option, Some, None, Bool, true, false, cond, not}
use Rattle.std.proofs.Common.{nat_eq, nat_le, refl, ap, ◌∙◌, sym, subst, arith, length}
use Rattle.std.specs.Prelude.{slice_set, ◌&&◌, ◌||◌, if◌then◌else◌}
use Rattle.std.specs.List.{filter, list_any}
use Rattle.std.proofs.Math.ListN.{length-set}
use Rattle.std.proofs.lemmas.Bool.Decides.{nat_tests}
use Rattle.fmp_base.specs.declared.states.Phase.{Phase}
use Rattle.fmp_base.specs.declared.states.Phase.TheVariants.{Dormant, Ready, Waiting}
use Rattle.fmp_base.specs.declared.states.TaskBlock.{TaskBlock}
use Rattle.fmp_base.specs.declared.systems.QueueOrder.{QueueOrder}
use Rattle.fmp_base.specs.declared.systems.QueueOrder.TheVariants.{Fifo, Priority}
use Rattle.fmp_base.specs.Queues.{placed, sorted, arranged, priority_in, is_ready, queue_of}
use Rattle.fmp_base.specs.States.{without, to_end, task_at}
use Rattle.fmp_ready.specs.ReadyLists.{head}
use Rattle.fmp_ring.specs.OrderLaws.{nat_same, nat_eq-same, without-gone}
use Rattle.fmp_waitq.specs.declared.queues.WaitQueues.{WaitQueues}
use Rattle.fmp_tasks.specs.Homes.{Standing, Kept, IsAmong, is_in_order, is_waiting, is_at, home, wait_home}
use Rattle.fmp_tasks.specs.KeptLaws.{task-other, task-same}

nat_eq-none : (u y t : ℕ) → nat_eq u t ≡ false → nat_eq y t ≡ true → nat_eq u y ≡ false
nat_eq-none u y t h k = grind (arith, nat_tests)

any-append : (p : ℕ → Bool) (l m : List ℕ) → list_any p (l ++ m) ≡ (list_any p l || list_any p m)
any-append p [] m = refl
any-append p (y ∷ ys) m = by_test (p y) (any-append p ys m) where
  by_test : (b : Bool) → list_any p (ys ++ m) ≡ (list_any p ys || list_any p m)
      → (b || list_any p (ys ++ m)) ≡ ((b || list_any p ys) || list_any p m)
  by_test true rest = refl
  by_test false rest = rest

-- another task is there without t where it was there
pub any-without : (u t : ℕ) (l : List ℕ) → nat_eq u t ≡ false → list_any (nat_eq u) (without l t)
    ≡ list_any (nat_eq u) l
any-without u t [] h = refl
any-without u t (y ∷ ys) h = by_test (nat_eq y t) refl (any-without u t ys h) where
  by_test : (b : Bool) → nat_eq y t ≡ b → list_any (nat_eq u) (without ys t) ≡ list_any (nat_eq u) ys
      → list_any (nat_eq u) (cond (not b) (y ∷ without ys t) (without ys t)) ≡ (nat_eq u y || list_any (nat_eq u) ys)
  by_test true e rest = rw (nat_eq-none u y t h e) rest
  by_test false e rest = ap (λ (b : Bool). nat_eq u y || b) rest

or_false : (b : Bool) → (b || false) ≡ b
or_false true = refl
or_false false = refl

or_true : (b : Bool) → (b || true) ≡ true
or_true true = refl
or_true false = refl

at_end : (t : ℕ) (l : List ℕ) → list_any (nat_eq t) (to_end l t) ≡ true
at_end t l =
    any-append (nat_eq t) (without l t) (t ∷ [])
    ∙ ap (λ (b : Bool). list_any (nat_eq t) (without l t) || (b || false)) (nat_eq-same t)
    ∙ or_true (list_any (nat_eq t) (without l t))

others_at_end : (u t : ℕ) (l : List ℕ) → nat_eq u t ≡ false → list_any (nat_eq u) (to_end l t) ≡ list_any (nat_eq u) l
others_at_end u t l h =
    any-append (nat_eq u) (without l t) (t ∷ [])
    ∙ ap (λ (b : Bool). list_any (nat_eq u) (without l t) || (b || false)) h
    ∙ or_false (list_any (nat_eq u) (without l t))
    ∙ any-without u t l h

-- all but t stand as they did, and t as its new block says
stood : (tasks : List TaskBlock) (order after : List ℕ) (t : ℕ) (x : TaskBlock) → Standing tasks order
    → t < length tasks
    → list_any (nat_eq t) after ≡ is_in_order x
    → ((u : ℕ) → nat_eq u t ≡ false → list_any (nat_eq u) after ≡ list_any (nat_eq u) order)
    → Standing (slice_set tasks t x) after
stood tasks order after t x k lt here others = record { each = λ u l. by_test u l (nat_eq u t) refl } where
  by_test : (u : ℕ) → u < length (slice_set tasks t x) → (b : Bool) → nat_eq u t ≡ b
      → list_any (nat_eq u) after ≡ is_in_order (task_at (slice_set tasks t x) u)
  by_test u l true e =
      let same : t ≡ u = sym (nat_same u t e) in
      subst (λ (v : ℕ). list_any (nat_eq v) after ≡ is_in_order (task_at (slice_set tasks t x) v)) same
      (here ∙ ap is_in_order (sym (task-same tasks t x lt)))
  by_test u l false e =
      let m : length (slice_set tasks t x) ≡ length tasks = length-set tasks t x in
      let l1 : u < length tasks = omega arith in
      others u e ∙ k.each u l1 ∙ ap is_in_order (sym (task-other tasks t u x e))

pub Standing-last : (tasks : List TaskBlock) (order : List ℕ) (t : ℕ) (x : TaskBlock) → Standing tasks order
    → t < length tasks
    → is_in_order x ≡ true → Standing (slice_set tasks t x) (to_end order t)
Standing-last tasks order t x k l e = stood tasks order (to_end order t) t x k l (at_end t order ∙ sym e)
    (λ u h. others_at_end u t order h)

pub Standing-left : (tasks : List TaskBlock) (order : List ℕ) (t : ℕ) (x : TaskBlock) → Standing tasks order
    → t < length tasks
    → is_in_order x ≡ false → Standing (slice_set tasks t x) (without order t)
Standing-left tasks order t x k l e = stood tasks order (without order t) t x k l (without-gone t order ∙ sym e)
    (λ u h. any-without u t order h)

pub Standing-stays : (tasks : List TaskBlock) (order : List ℕ) (t : ℕ) (x : TaskBlock) → Standing tasks order
    → t < length tasks
    → is_in_order x ≡ is_in_order (task_at tasks t) → Standing (slice_set tasks t x) order
Standing-stays tasks order t x k l e = stood tasks order order t x k l (k.each t l ∙ sym e) (λ u h. refl)

pub any-filter : (F : ℕ → Bool) (t : ℕ) (l : List ℕ) → list_any (nat_eq t) (filter F l) ≡ (F t && list_any (nat_eq t) l)
any-filter F t [] = and_false (F t) where
  and_false : (b : Bool) → false ≡ (b && false)
  and_false true = refl
  and_false false = refl
any-filter F t (y ∷ ys) = by_test (F y) refl (nat_eq t y) refl (any-filter F t ys) where
  by_test : (b : Bool) → F y ≡ b → (c : Bool) → nat_eq t y ≡ c → list_any (nat_eq t) (filter F ys)
      ≡ (F t && list_any (nat_eq t) ys)
      → list_any (nat_eq t) (cond b (y ∷ filter F ys) (filter F ys)) ≡ (F t && (c || list_any (nat_eq t) ys))
  by_test true e true d rest =
      let same : t ≡ y = nat_same t y d in
      let here : F t ≡ true = ap F same ∙ e in
      rw (d, here) refl
  by_test true e false d rest = rw d rest
  by_test false e true d rest =
      let same : t ≡ y = nat_same t y d in
      let here : F t ≡ false = ap F same ∙ e in
      rest ∙ ap (λ (b : Bool). b && list_any (nat_eq t) ys) here ∙ ap (λ (b : Bool). b && true) (sym here)
  by_test false e false d rest = rest

pub any-placed : (p : ℕ → Bool) (f : ℕ → ℕ) (t : ℕ) (l : List ℕ) → list_any p (placed f t l) ≡ (p t || list_any p l)
any-placed p f t [] = refl
any-placed p f t (u ∷ us) = by_test (nat_le (f t) (f u)) (any-placed p f t us) where
  swap : (a b c : Bool) → (b || (a || c)) ≡ (a || (b || c))
  swap true true c = refl
  swap true false c = refl
  swap false true c = refl
  swap false false c = refl

  by_test : (b : Bool) → list_any p (placed f t us) ≡ (p t || list_any p us)
      → list_any p (cond b (t ∷ u ∷ us) (u ∷ placed f t us)) ≡ (p t || (p u || list_any p us))
  by_test true rest = refl
  by_test false rest = ap (λ (b : Bool). p u || b) rest ∙ swap (p t) (p u) (list_any p us)

pub any-sorted : (p : ℕ → Bool) (f : ℕ → ℕ) (l : List ℕ) → list_any p (sorted f l) ≡ list_any p l
any-sorted p f [] = refl
any-sorted p f (t ∷ ts) = any-placed p f t (sorted f ts) ∙ ap (λ (b : Bool). p t || b) (any-sorted p f ts)

any-arranged : (by : QueueOrder) (p : ℕ → Bool) (f : ℕ → ℕ) (l : List ℕ) → list_any p (arranged by f l) ≡ list_any p l
any-arranged Fifo p f l = refl
any-arranged Priority p f l = any-sorted p f l

abbrev pub IsBelow : ℕ → Option ℕ → Type 0
IsBelow n None = Unit {0}
IsBelow n (Some h) = h < n

-- a task that stands in the order is in the list of its home
pub among : (home : TaskBlock → Option ℕ) (by : ℕ → QueueOrder) (tasks : List TaskBlock) (order : List ℕ)
    (lists : List (List ℕ)) (t : ℕ)
    → Kept home by tasks order lists → Standing tasks order → t < length tasks
    → IsBelow (length lists) (home (task_at tasks t))
    → ((h : ℕ) → home (task_at tasks t) ≡ Some h → is_in_order (task_at tasks t) ≡ true)
    → IsAmong t lists (home (task_at tasks t))
among home by tasks order lists t kept k l below stays = by_home (home (task_at tasks t)) refl below where
  by_home : (o : Option ℕ) → home (task_at tasks t) ≡ o → IsBelow (length lists) o → IsAmong t lists o
  by_home None e b = tt
  by_home (Some h) e b =
      let here : is_at h (home (task_at tasks t)) ≡ true = ap (is_at h) e ∙ nat_eq-same h in
      let there : list_any (nat_eq t) order ≡ true = k.each t l ∙ stays h e in
      ap (list_any (nat_eq t)) (kept.each h b)
      ∙ any-arranged (by h) (nat_eq t) (priority_in tasks) (filter (λ u. is_at h (home (task_at tasks u))) order)
      ∙ any-filter (λ u. is_at h (home (task_at tasks u))) t order
      ∙ ap (λ (b : Bool). b && list_any (nat_eq t) order) here
      ∙ there

-- who has a queue stands in the order
waiting_stands : (w : WaitQueues) (phase : Phase) (h : ℕ) → wait_home w (queue_of phase) ≡ Some h → is_waiting phase
    ≡ true
waiting_stands w Dormant h e = cc
waiting_stands w Ready h e = cc
waiting_stands w (Waiting c) h e = refl

pub home_stands : (w : WaitQueues) (x : TaskBlock) (h : ℕ) → home w x ≡ Some h → is_in_order x ≡ true
home_stands w x h e = by_test (is_ready x) e where
  by_test : (b : Bool) → (if b then Some (head x.processor x.priority) else wait_home w (queue_of x.phase)) ≡ Some h
      → (b || is_waiting x.phase) ≡ true
  by_test true d = refl
  by_test false d = waiting_stands w x.phase h d
