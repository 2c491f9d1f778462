-- Where a task that joins a queue by priority comes: behind each that is as urgent.
use Rattle.std.proofs.Common.{◌≡◌, ℕ, ◌<◌, ◌≤◌, List, [], ◌∷◌, ◌++◌, Option, Some, Bool, true, false, cond, nat_eq}
use Rattle.std.proofs.Common.{refl, ap, ◌∙◌, sym, subst, arith, length}
use Rattle.std.specs.Prelude.{slice_set, filter, ◌||◌}
use Rattle.std.proofs.Math.ListN.{length-set}
use Rattle.std.proofs.lemmas.Bool.{le-ltb}
use Rattle.fmp_base.specs.declared.states.Phase.{Phase}
use Rattle.fmp_base.specs.declared.states.Phase.TheVariants.{Dormant, Ready, Waiting}
use Rattle.fmp_base.specs.declared.states.TaskBlock.{TaskBlock}
use Rattle.fmp_base.specs.declared.states.WaitQueue.{WaitQueue}
use Rattle.fmp_base.specs.declared.systems.QueueOrder.{QueueOrder}
use Rattle.fmp_base.specs.declared.systems.QueueOrder.TheVariants.{Priority}
use Rattle.fmp_base.specs.MailboxCalls.{behind_equals}
use Rattle.fmp_base.specs.Queues.{arranged, is_queue, is_ready, priority_in, queue_of, sorted, waits_in}
use Rattle.fmp_base.specs.States.{task_at, without}
use Rattle.fmp_base.specs.Systems.{SystemTables}
use Rattle.fmp_ring.specs.OrderLaws.{nat_same, IsOrder-without}
use Rattle.fmp_ring.specs.Places.{Walked}
use Rattle.fmp_ring.specs.RingLists.{RingLists, is_in, behind, from_node, list_at}
use Rattle.fmp_ring.specs.WalkLaws.{behind-cons}
use Rattle.fmp_waitq.specs.declared.queues.WaitQueues.{WaitQueues}
use Rattle.fmp_waitq.specs.WaitLaws.{head-below}
use Rattle.fmp_waitq.specs.WaitLists.{head}
use Rattle.fmp_tasks.specs.Homes.{Fits, Kept, home, is_at, is_in_order, is_waiting, left_from, order_with_head}
use Rattle.fmp_tasks.specs.Joining.{AreOrdered}
use Rattle.fmp_tasks.specs.KeptLaws.{Kept-left, length-left_from, task-other}
use Rattle.fmp_tasks.specs.SortLaws.{AtLeast, Sorted, Sorted-sorted}
use Rattle.fmp_tasks.specs.Tables.{Sound}
use Rattle.fmp_tasks.proofs.OnceLemmas.{IsOrder-queue}
use Rattle.fmp_tasks.proofs.SoundLemmas.{at_task, lent, queue_order}
use Rattle.fmp_tasks.proofs.StandLemmas.{any-filter, any-sorted, any-without}
use Rattle.fmp_tasks.proofs.TopLemmas.{BlocksFit-set}

AtLeast-in : (f : ℕ → ℕ) (n u : ℕ) (l : List ℕ) → AtLeast f n l → is_in u l ≡ true → n ≤ f u
AtLeast-in f n u [] h i = cc
AtLeast-in f n u (y ∷ ys) h i = by_test (nat_eq u y) refl i (λ j. AtLeast-in f n u ys h.1 j) where
  by_test : (b : Bool) → nat_eq u y ≡ b → (b || is_in u ys) ≡ true → (is_in u ys ≡ true → n ≤ f u) → n ≤ f u
  by_test true d j rest = subst (λ (v : ℕ). n ≤ f v) (sym (nat_same u y d)) h.0
  by_test false d j rest = rest j

-- a walk along a sorted list comes to each that is as urgent as x
Walked-sorted : (f : ℕ → ℕ) (x u : ℕ) (l : List ℕ) → Sorted f l → is_in u l ≡ true → f u ≤ f x → Walked f x l (Some u)
Walked-sorted f x u [] s i e = cc
Walked-sorted f x u (y ∷ ys) s i e = by_test (nat_eq u y) refl i (λ j. Walked-sorted f x u ys s.1 j e) where
  cut : (b : Bool) → nat_eq u y ≡ b → behind u (y ∷ ys) ≡ cond b ys (behind u ys)
  cut b d = behind-cons u y ys ∙ ap (λ (c : Bool). cond c ys (behind u ys)) d

  by_test : (b : Bool) → nat_eq u y ≡ b → (b || is_in u ys) ≡ true → (is_in u ys ≡ true → Walked f x ys (Some u))
      → Walked f x (y ∷ ys) (Some u)
  by_test true d j rest =
      let same : u ≡ y = nat_same u y d in
      let whole : y ∷ ys ≡ from_node (Some u) (y ∷ ys) =
      ap (λ (v : ℕ). v ∷ ys) (sym same) ∙ ap (λ (q : List ℕ). u ∷ q) (sym (cut true d)) in
      record { past = []; split = whole; rest = ap (behind_equals f x) whole }
  by_test false d j rest =
      let w : Walked f x ys (Some u) = rest j in
      let low : f y ≤ f u = AtLeast-in f (f y) u ys s.0 j in
      let below : f y ≤ f x = omega arith in
      let later : from_node (Some u) ys ≡ from_node (Some u) (y ∷ ys) = ap (λ (q : List ℕ). u ∷ q)
      (sym (cut false d)) in
      let past : behind_equals f x (y ∷ ys) ≡ y ∷ behind_equals f x ys = rw (le-ltb (f x) (f y) below) refl in
      record {
        past = y ∷ w.past;
        split = ap (λ (q : List ℕ). y ∷ q) (w.split ∙ ap (λ (q : List ℕ). w.past ++ q) later);
        rest =
            past ∙ ap (λ (q : List ℕ). y ∷ q)
            (w.rest ∙ ap (λ (q : List ℕ). w.past ++ behind_equals f x q) later);
      }

waits-in_order : (q : WaitQueue) (x : TaskBlock) → waits_in q x ≡ true → is_in_order x ≡ true
waits-in_order q x e = by_phase (is_ready x) x.phase e where
  by_phase : (b : Bool) (phase : Phase) → is_queue q (queue_of phase) ≡ true → (b || is_waiting phase) ≡ true
  by_phase true phase d = refl
  by_phase false Dormant d = cc
  by_phase false Ready d = cc
  by_phase false (Waiting c) d = refl

-- the queues of priority order after task t, which became x, left its own
pub ordered-left : (sys : SystemTables) (tasks : List TaskBlock) (order ready : List ℕ) (waits : WaitQueues)
    (rings : RingLists) (deadlines : List (Option ℕ)) (k : Sound sys tasks order ready waits rings deadlines)
    (t : ℕ) (x : TaskBlock) → t < length tasks → Fits sys x
    → AreOrdered waits sys (slice_set tasks t x)
    (record rings { lists = left_from rings.lists (home waits (task_at tasks t)) t }) t
ordered-left sys tasks order ready waits rings deadlines k t x lt fits = record {
  each = λ q l e.
      let now : List TaskBlock = slice_set tasks t x in
      let f : ℕ → ℕ = priority_in now in
      let F : ℕ → Bool = λ u. is_at (head waits q) (home waits (task_at now u)) in
      let after : Kept (home waits) (order_with_head waits sys) now (without order t)
      (left_from rings.lists (home waits (task_at tasks t)) t) =
      Kept-left (home waits) (order_with_head waits sys) tasks order rings.lists t x k.kept in
      let long : length (left_from rings.lists (home waits (task_at tasks t)) t) ≡ length rings.lists =
      length-left_from rings.lists (home waits (task_at tasks t)) t in
      let below : head waits q < length rings.lists = head-below waits rings q (lent k) l in
      let here : head waits q < length (left_from rings.lists (home waits (task_at tasks t)) t) = omega arith in
      let list : list_at (left_from rings.lists (home waits (task_at tasks t)) t) (head waits q)
      ≡ sorted f (filter F (without order t)) =
      after.each (head waits q) here
      ∙ ap (λ (by : QueueOrder). arranged by f (filter F (without order t))) (queue_order waits sys q l ∙ e) in
      record {
        once =
            rw (list, k.nodes) (IsOrder-queue Priority f F (length tasks) (without order t)
            (IsOrder-without _ _ _ k.distinct));
        behind = λ u m apart there urgent.
            let count : length now ≡ length tasks = length-set tasks t x in
            let m1 : u < length tasks = omega arith in
            let at : F u ≡ true = at_task waits sys now q u k.own_waits (BlocksFit-set t x k.blocks fits) l ∙ there in
            let other : task_at now u ≡ task_at tasks u = task-other tasks t u x apart in
            let stood : is_in u order ≡ true =
            k.standing.each u m1 ∙ waits-in_order q (task_at tasks u) (ap (waits_in q) (sym other) ∙ there) in
            let stays : is_in u (without order t) ≡ true = any-without u t order apart ∙ stood in
            let among : is_in u (sorted f (filter F (without order t))) ≡ true =
            any-sorted (nat_eq u) f (filter F (without order t))
            ∙ any-filter F u (without order t) ∙ rw (at, stays) refl in
            rw list (Walked-sorted f t u (sorted f (filter F (without order t)))
            (Sorted-sorted f (filter F (without order t))) among urgent);
      };
}
