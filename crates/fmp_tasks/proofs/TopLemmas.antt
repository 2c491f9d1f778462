-- The first of the most urgent of some tasks is the first of the first priority that one of them has.
use Rattle.std.proofs.Common.{◌≡◌, ℕ, zero, suc, ◌+◌, ◌-◌, ◌*◌, ◌<◌, ◌≤◌, List, [], ◌∷◌, Option, Some, None, Bool, true}
use Rattle.std.proofs.Common.{false, cond, nat_eq, nat_lt, refl, ap, ◌∙◌, sym, subst, arith, length}
use Rattle.std.specs.Prelude.{slice_set, ◌&&◌, IfSome, if◌then◌else◌}
use Rattle.std.specs.List.{filter}
use Rattle.std.proofs.lemmas.Bool.Decides.{nat_tests}
use Rattle.std.proofs.lemmas.List.Elements.{filter_agree}
use Rattle.fmp_base.specs.declared.states.TaskBlock.{TaskBlock}
use Rattle.fmp_base.specs.Queues.{arranged, first_urgent, more_urgent, priority_in, is_ready, is_ready_on, queue_of}
use Rattle.fmp_base.specs.Queues.{first_of}
use Rattle.fmp_base.specs.States.{task_at}
use Rattle.fmp_base.specs.Systems.{SystemTables}
use Rattle.fmp_base.specs.declared.states.WaitQueue.{WaitQueue}
use Rattle.fmp_base.specs.declared.systems.QueueOrder.{QueueOrder}
use Rattle.fmp_base.specs.declared.systems.QueueOrder.TheVariants.{Fifo}
use Rattle.fmp_ready.specs.ReadyLists.{first_from, first_or, most_urgent, head, queue_at}
use Rattle.fmp_ring.specs.OrderLaws.{nat_same}
use Rattle.fmp_ring.specs.RingLists.{RingLists, list_at}
use Rattle.fmp_waitq.specs.declared.queues.WaitQueues.{WaitQueues}
use Rattle.fmp_waitq.specs.WaitLists.{head as wait_head}
use Rattle.fmp_tasks.specs.Homes.{AllFit, BlocksFit, Fits, Kept, home, is_at, order_with_head, wait_home}

filter-head : (p : ℕ → Bool) (l : List ℕ) (u : ℕ) (us : List ℕ) → filter p l ≡ u ∷ us → p u ≡ true
filter-head p [] u us h = cc
filter-head p (y ∷ ys) u us h = by_test (p y) refl h (filter-head p ys u us) where
  by_test : (b : Bool) → p y ≡ b → cond b (y ∷ filter p ys) (filter p ys) ≡ u ∷ us
      → (filter p ys ≡ u ∷ us → p u ≡ true) → p u ≡ true
  by_test true e k rest = let same : y ≡ u = cc in subst (λ (z : ℕ). p z ≡ true) same e
  by_test false e k rest = rest k

-- the tasks of priority k
abbrev of_priority : List TaskBlock → List ℕ → ℕ → List ℕ
of_priority xs l k = filter (λ u. nat_eq (priority_in xs u) k) l

lt_of : (a b : ℕ) → nat_lt a b ≡ true → a < b
lt_of a b h = grind (arith, nat_tests)

le_of : (a b : ℕ) → nat_lt a b ≡ false → b ≤ a
le_of a b h = grind (arith, nat_tests)

lt_false : (a b : ℕ) → b ≤ a → nat_lt a b ≡ false
lt_false a b h = grind (arith, nat_tests)

lt_true : (a b : ℕ) → a < b → nat_lt a b ≡ true
lt_true a b h = grind (arith, nat_tests)

-- t is at least as urgent as all from priority k on
keeps_first : (xs : List TaskBlock) (t : ℕ) (l : List ℕ) (k n : ℕ) → priority_in xs t ≤ k
    → more_urgent xs t (first_from (of_priority xs l) k n) ≡ Some t
keeps_first xs t l k zero h = refl
keeps_first xs t l k (suc n) h = by_queue (of_priority xs l k) refl (keeps_first xs t l (k + 1) n (omega arith)) where
  by_queue : (q : List ℕ) → of_priority xs l k ≡ q → more_urgent xs t (first_from (of_priority xs l) (k + 1) n) ≡ Some t
      → more_urgent xs t (first_or q (first_from (of_priority xs l) (k + 1) n)) ≡ Some t
  by_queue [] e rest = rest
  by_queue (u ∷ us) e rest =
      let same : priority_in xs u ≡ k = nat_same _ _ (filter-head (λ u. nat_eq (priority_in xs u) k) l u us e) in
      let no : nat_lt (priority_in xs u) (priority_in xs t) ≡ false = lt_false _ _ (omega arith) in rw no refl

one_more : (xs : List TaskBlock) (t : ℕ) (l : List ℕ) (k n : ℕ) → k ≤ priority_in xs t → priority_in xs t < k + n
    → first_from (of_priority xs (t ∷ l)) k n ≡ more_urgent xs t (first_from (of_priority xs l) k n)
one_more xs t l k zero a b = absurd (omega arith)
one_more xs t l k (suc n) a b = by_test (nat_eq (priority_in xs t) k) refl (λ c d. one_more xs t l (k + 1) n c d) where
  by_test : (c : Bool) → nat_eq (priority_in xs t) k ≡ c
      → (k + 1 ≤ priority_in xs t → priority_in xs t < k + 1 + n → first_from (of_priority xs (t ∷ l)) (k + 1) n
      ≡ more_urgent xs t (first_from (of_priority xs l) (k + 1) n))
      → first_or (cond c (t ∷ of_priority xs l k) (of_priority xs l k)) (first_from (of_priority xs (t ∷ l)) (k + 1) n)
      ≡ more_urgent xs t (first_or (of_priority xs l k) (first_from (of_priority xs l) (k + 1) n))
  by_test true e rest = let same : priority_in xs t ≡ k = nat_same _ _ e in sym
      (keeps_first xs t l k (suc n) (omega arith))
  by_test false e rest = by_queue (of_priority xs l k) refl where
    above : k + 1 ≤ priority_in xs t
    above = grind (arith, nat_tests)

    by_queue : (q : List ℕ) → of_priority xs l k ≡ q → first_or q (first_from (of_priority xs (t ∷ l)) (k + 1) n)
        ≡ more_urgent xs t (first_or q (first_from (of_priority xs l) (k + 1) n))
    by_queue [] d = rest above (omega arith)
    by_queue (u ∷ us) d =
        let same : priority_in xs u ≡ k = nat_same _ _ (filter-head (λ u. nat_eq (priority_in xs u) k) l u us d) in
        let up : k + 1 ≤ priority_in xs t = above in
        let yes : nat_lt (priority_in xs u) (priority_in xs t) ≡ true = lt_true _ _ (omega arith) in rw yes refl

none_of : (xs : List TaskBlock) (k n : ℕ) → first_from (of_priority xs []) k n ≡ None
none_of xs k zero = refl
none_of xs k (suc n) = none_of xs (k + 1) n

abbrev pub AllWithin : List TaskBlock → ℕ → ℕ → List ℕ → Type 0
AllWithin xs k n [] = Unit {0}
AllWithin xs k n (t ∷ ts) = (k ≤ priority_in xs t) × (priority_in xs t < k + n) × AllWithin xs k n ts

pub first_of_priorities : (xs : List TaskBlock) (l : List ℕ) (k n : ℕ) → AllWithin xs k n l
    → first_from (of_priority xs l) k n ≡ first_urgent xs l
first_of_priorities xs [] k n h = none_of xs k n
first_of_priorities xs (t ∷ ts) k n h = one_more xs t ts k n h.0 h.1
    ∙ ap (more_urgent xs t) (first_of_priorities xs ts k n h.2)

filter-filter : (p q : ℕ → Bool) (l : List ℕ) → filter q (filter p l) ≡ filter (λ u. p u && q u) l
filter-filter p q [] = refl
filter-filter p q (t ∷ ts) = by_test (p t) refl (filter-filter p q ts) where
  by_test : (b : Bool) → p t ≡ b → filter q (filter p ts) ≡ filter (λ u. p u && q u) ts
      → filter q (cond b (t ∷ filter p ts) (filter p ts)) ≡ cond (b && q t) (t ∷ filter (λ u. p u && q u) ts)
      (filter (λ u. p u && q u) ts)
  by_test true e rest =
      elim (q t) as (λ c. cond c (t ∷ filter q (filter p ts)) (filter q (filter p ts))
      ≡ cond c (t ∷ filter (λ u. p u && q u) ts) (filter (λ u. p u && q u) ts))
      [ true ↦ ap (λ (l : List ℕ). t ∷ l) rest | false ↦ rest ]
  by_test false e rest = rest

same_head : (a b c d : ℕ) → 1 ≤ b → b ≤ 16 → 1 ≤ d → d ≤ 16 → (nat_eq a c && nat_eq b d)
    ≡ nat_eq (a * 16 + (b - 1)) (c * 16 + (d - 1))
same_head a b c d e f g h = grind (arith, nat_tests)

-- the lists of the ready queues come before those of the wait queues
ready_first : (w : WaitQueues) (h : ℕ) (o : Option WaitQueue) → h < w.processors * 16 → is_at h (wait_home w o) ≡ false
ready_first w h None l = refl
ready_first w h (Some q) l = apart (wait_head w q) h (omega arith) where
  apart : (a b : ℕ) → b < a → nat_eq a b ≡ false
  apart a b k = grind (arith, nat_tests)

-- and their order is FIFO
pub ready_fifo : (w : WaitQueues) (sys : SystemTables) (h : ℕ) → h < w.processors * 16 → order_with_head w sys h ≡ Fifo
ready_fifo w sys h l = rw (lt_true h (w.processors * 16) l) refl

-- a ready queue of p: those ready there, of its priority
ready_test : (w : WaitQueues) (sys : SystemTables) (x : TaskBlock) (p k : ℕ) → Fits sys x → p < w.processors → 1 ≤ k
    → k ≤ 16
    → (is_ready_on p x && nat_eq x.priority k) ≡ is_at (head p k) (home w x)
ready_test w sys x p k f there a b = by_test (is_ready x) where
  by_test : (c : Bool) → ((c && nat_eq x.processor p) && nat_eq x.priority k)
      ≡ is_at (head p k) (if c then Some (head x.processor x.priority) else wait_home w (queue_of x.phase))
  by_test false = sym (ready_first w (head p k) (queue_of x.phase) (omega arith))
  by_test true = same_head x.processor x.priority p k f.urgent f.least a b

-- so it is where there is no such task
no_task : (xs : List TaskBlock) (t : ℕ) → length xs ≤ t → is_ready (task_at xs t) ≡ false
no_task [] t l = refl
no_task (x ∷ xs) zero l = absurd (omega arith)
no_task (x ∷ xs) (suc t) l = no_task xs t (omega arith)

pub no_home : (w : WaitQueues) (xs : List TaskBlock) (t : ℕ) → length xs ≤ t → home w (task_at xs t) ≡ None
no_home w [] t l = refl
no_home w (x ∷ xs) zero l = absurd (omega arith)
no_home w (x ∷ xs) (suc t) l = no_home w xs t (omega arith)

AllFit-at : (sys : SystemTables) (xs : List TaskBlock) (t : ℕ) → AllFit sys xs → t < length xs → Fits sys (task_at xs t)
AllFit-at sys [] t h l = absurd (omega arith)
AllFit-at sys (y ∷ ys) zero h l = h.0
AllFit-at sys (y ∷ ys) (suc t) h l = AllFit-at sys ys t h.1 (omega arith)

pub Fits-at : {sys : SystemTables} {xs : List TaskBlock} (t : ℕ) → BlocksFit sys xs → t < length xs
    → Fits sys (task_at xs t)
Fits-at {sys} {xs} t h l = AllFit-at sys xs t h.each l

AllFit-set : (sys : SystemTables) (xs : List TaskBlock) (t : ℕ) (x : TaskBlock) → AllFit sys xs → Fits sys x
    → AllFit sys (slice_set xs t x)
AllFit-set sys [] t x h k = tt
AllFit-set sys (y ∷ ys) zero x h k = (k, h.1)
AllFit-set sys (y ∷ ys) (suc t) x h k = (h.0, AllFit-set sys ys t x h.1 k)

pub BlocksFit-set : {sys : SystemTables} {xs : List TaskBlock} (t : ℕ) (x : TaskBlock) → BlocksFit sys xs → Fits sys x
    → BlocksFit sys (slice_set xs t x)
BlocksFit-set {sys} {xs} t x h k = record { each = AllFit-set sys xs t x h.each k }

-- what stands there by the lists stands there by the definition
ready_at : (w : WaitQueues) (sys : SystemTables) (xs : List TaskBlock) (p k t : ℕ) → BlocksFit sys xs
    → p < w.processors → 1 ≤ k → k ≤ 16
    → (is_ready_on p (task_at xs t) && nat_eq (priority_in xs t) k) ≡ is_at (head p k) (home w (task_at xs t))
ready_at w sys xs p k t h there a b = by_test (nat_lt t (length xs)) refl where
  by_test : (c : Bool) → nat_lt t (length xs) ≡ c
      → (is_ready_on p (task_at xs t) && nat_eq (priority_in xs t) k) ≡ is_at (head p k) (home w (task_at xs t))
  by_test true e = ready_test w sys (task_at xs t) p k (Fits-at t h (lt_of t (length xs) e)) there a b
  by_test false e =
      let l : length xs ≤ t = le_of t (length xs) e in
      ap (λ (c : Bool). (c && nat_eq (task_at xs t).processor p) && nat_eq (priority_in xs t) k) (no_task xs t l)
      ∙ sym (ap (is_at (head p k)) (no_home w xs t l))

ready_within : (sys : SystemTables) (xs : List TaskBlock) (l : List ℕ) (p : ℕ) → BlocksFit sys xs
    → AllWithin xs 1 16 (filter (λ t. is_ready_on p (task_at xs t)) l)
ready_within sys xs [] p h = tt
ready_within sys xs (t ∷ ts) p h = by_test (is_ready_on p (task_at xs t)) refl (nat_lt t (length xs)) refl
    (ready_within sys xs ts p h) where
      by_test : (b : Bool) → is_ready_on p (task_at xs t) ≡ b → (c : Bool) → nat_lt t (length xs) ≡ c
          → AllWithin xs 1 16 (filter (λ t. is_ready_on p (task_at xs t)) ts)
          → AllWithin xs 1 16 (cond b (t ∷ filter (λ t. is_ready_on p (task_at xs t)) ts)
          (filter (λ t. is_ready_on p (task_at xs t)) ts))
      by_test false d c e rest = rest
      by_test true d true e rest =
          let f : Fits sys (task_at xs t) = Fits-at t h (lt_of t (length xs) e) in
          let a : 1 ≤ priority_in xs t = f.urgent in let b : priority_in xs t ≤ 16 = f.least in
          (a, omega arith, rest)
      by_test true d false e rest =
          let no : is_ready (task_at xs t) ≡ false = no_task xs t (le_of t (length xs) e) in
          let d2 : (is_ready (task_at xs t) && nat_eq (task_at xs t).processor p) ≡ true = d in
          let d3 : (false && nat_eq (task_at xs t).processor p) ≡ true = subst
          (λ (b : Bool). (b && nat_eq (task_at xs t).processor p) ≡ true) no d2 in
          cc

queues-same : (f g : ℕ → List ℕ) (k n : ℕ) → ((j : ℕ) → k ≤ j → j < k + n → f j ≡ g j) → first_from f k n
    ≡ first_from g k n
queues-same f g k zero h = refl
queues-same f g k (suc n) h = ap (λ (q : List ℕ). first_or q (first_from f (k + 1) n)) (h k (omega arith) (omega arith))
    ∙ ap (first_or (g k)) (queues-same f g (k + 1) n (λ j a b. h j (omega arith) (omega arith)))

-- the list of a priority on p is the ready queue of p, those of that priority
pub ready_list : (w : WaitQueues) (sys : SystemTables) (xs : List TaskBlock) (order : List ℕ) (lists : List (List ℕ))
    (p k : ℕ) → BlocksFit sys xs
    → Kept (home w) (order_with_head w sys) xs order lists → p < w.processors → 1 ≤ k → k ≤ 16
    → w.processors * 16 ≤ length lists
    → list_at lists (head p k) ≡ filter (λ u. nat_eq (priority_in xs u) k)
    (filter (λ t. is_ready_on p (task_at xs t)) order)
ready_list w sys xs order lists p k h kept there a b l =
    kept.each (head p k) (omega arith)
    ∙ ap (λ (by : QueueOrder). arranged by (priority_in xs) (filter (λ u. is_at (head p k) (home w (task_at xs u)))
    order)) (ready_fifo w sys (head p k) (omega arith))
    ∙ sym (filter-filter (λ t. is_ready_on p (task_at xs t)) (λ u. nat_eq (priority_in xs u) k) order
    ∙ filter_agree (λ u. is_ready_on p (task_at xs u) && nat_eq (priority_in xs u) k)
    (λ u. is_at (head p k) (home w (task_at xs u)))
    (λ u. ready_at w sys xs p k u h there a b) order)

-- the first of the first list that is not empty is the first of the most urgent
pub most_urgent-is : (w : WaitQueues) (sys : SystemTables) (xs : List TaskBlock) (order : List ℕ) (r : RingLists)
    (p : ℕ) → BlocksFit sys xs
    → Kept (home w) (order_with_head w sys) xs order r.lists → p < w.processors → w.processors * 16 ≤ length r.lists
    → most_urgent r p ≡ first_urgent xs (filter (λ t. is_ready_on p (task_at xs t)) order)
unfolding most_urgent
most_urgent-is w sys xs order r p h kept there l =
    queues-same (queue_at r p) (of_priority xs (filter (λ t. is_ready_on p (task_at xs t)) order)) 1 16
    (λ j a b. ready_list w sys xs order r.lists p j h kept there a (omega arith) l)
    ∙ first_of_priorities xs (filter (λ t. is_ready_on p (task_at xs t)) order) 1 16 (ready_within sys xs order p h)

-- the first of those of a priority is ready
pub first-is-ready : (xs : List TaskBlock) (order : List ℕ) (p k : ℕ) (o : Option ℕ)
    → o ≡ first_of (filter (λ u. nat_eq (priority_in xs u) k) (filter (λ t. is_ready_on p (task_at xs t)) order))
    → IfSome o (λ t. is_ready (task_at xs t) ≡ true)
first-is-ready xs order p k None e = tt
first-is-ready xs order p k (Some t) e =
    by_list (filter (λ u. is_ready_on p (task_at xs u) && nat_eq (priority_in xs u) k) order) refl
    (e ∙ ap first_of (filter-filter (λ t. is_ready_on p (task_at xs t)) (λ u. nat_eq (priority_in xs u) k) order)) where
      both : (a b c : Bool) → ((a && b) && c) ≡ true → a ≡ true
      both true b c h = refl
      both false b c h = cc

      by_list : (l : List ℕ) → filter (λ u. is_ready_on p (task_at xs u) && nat_eq (priority_in xs u) k) order ≡ l
          → Some t ≡ first_of l
          → is_ready (task_at xs t) ≡ true
      by_list [] d f = cc
      by_list (u ∷ us) d f =
          let same : t ≡ u = cc in
          let here : (is_ready_on p (task_at xs u) && nat_eq (priority_in xs u) k)
          ≡ true = filter-head (λ u. is_ready_on p (task_at xs u) && nat_eq (priority_in xs u) k) order u us d in
          let ready : is_ready (task_at xs u) ≡ true = both (is_ready (task_at xs u))
          (nat_eq (task_at xs u).processor p) (nat_eq (priority_in xs u) k) here in
          subst (λ (v : ℕ). is_ready (task_at xs v) ≡ true) (sym same) ready
