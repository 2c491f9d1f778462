-- What keeps the tables sound.
use Rattle.std.proofs.Common.{◌≡◌, ℕ, zero, suc, ◌+◌, ◌-◌, ◌*◌, ◌<◌, ◌≤◌, List, [], ◌∷◌, length, Option, Some, None}
use Rattle.std.proofs.Common.{Bool, true, false, nat_eq, nat_lt, refl, ap, ◌∙◌, sym, subst, arith, get_or, map}
use Rattle.std.specs.Prelude.{slice_set, filter, not, ◌&&◌, if◌then◌else◌}
use Rattle.std.proofs.Math.ListN.{length-set}
use Rattle.std.proofs.lemmas.Bool.{le-ltb}
use Rattle.std.proofs.lemmas.Bool.Decides.{nat_tests}
use Rattle.std.proofs.lemmas.List.Elements.{filter_agree}
use Rattle.fmp_base.specs.declared.states.Phase.{Phase}
use Rattle.fmp_base.specs.declared.states.Phase.TheVariants.{Dormant, Ready, Waiting}
use Rattle.fmp_base.specs.declared.states.TaskBlock.{TaskBlock}
use Rattle.fmp_base.specs.declared.states.WaitQueue.{WaitQueue}
use Rattle.fmp_base.specs.declared.states.WaitQueue.TheVariants as queue
use Rattle.fmp_base.specs.declared.systems.QueueOrder.{QueueOrder}
use Rattle.fmp_base.specs.declared.systems.QueueOrder.TheVariants.{Fifo}
use Rattle.fmp_base.specs.Queues.{arranged, order_of, priority_in, is_ready, is_ready_phase, waits_in, is_queue}
use Rattle.fmp_base.specs.Queues.{is_same_queue, queue_of, stands_by_priority, is_by_priority}
use Rattle.fmp_base.specs.States.{task_at, without, to_end}
use Rattle.fmp_base.specs.Systems.{SystemTables}
use Rattle.fmp_ready.specs.ReadyLists.{AreExact, head as ready_head}
use Rattle.fmp_ring.specs.OrderLaws.{nat_same, IsOrder-to_end, IsOrder-without}
use Rattle.fmp_ring.specs.RingLists.{RingLists, is_linked, list_at}
use Rattle.fmp_waitq.specs.declared.queues.ObjectCounts.{ObjectCounts}
use Rattle.fmp_waitq.specs.declared.queues.WaitQueues.{WaitQueues}
use Rattle.fmp_waitq.specs.WaitLaws.{head-below}
use Rattle.fmp_waitq.specs.WaitLists.{AreLent, IsThere, count_of_lists, head, place_of}
use Rattle.fmp_tasks.specs.Homes.{Fits, BlocksFit, Kept, Stays, IsAmong, IsSomeThere, is_at, is_in_order, home}
use Rattle.fmp_tasks.specs.Homes.{ready_home, some_if, wait_home, left_from, joined_to, order_with_head}
use Rattle.fmp_tasks.specs.Homes.{queue_with_place, counts_of, waits_of}
use Rattle.fmp_tasks.specs.Tables.{Sound}
use Rattle.fmp_tasks.specs.KeptLaws.{Kept-last, Kept-left, Kept-stays, free-after, length-left_from, length-joined_to}
use Rattle.fmp_tasks.proofs.StandLemmas.{Standing-last, Standing-left, Standing-stays, IsBelow, among, home_stands}
use Rattle.fmp_tasks.proofs.TopLemmas.{Fits-at, BlocksFit-set, no_home, ready_fifo}

-- the task that was read
pub read-at : (tasks : List TaskBlock) (t : ℕ) (x : TaskBlock) → t < length tasks → x ≡ get_or tasks t x
    → task_at tasks t ≡ x
read-at [] t x l e = absurd (omega arith)
read-at (y ∷ ys) zero x l e = sym e
read-at (y ∷ ys) (suc t) x l e = read-at ys t x (omega arith) e

-- the task that was written
pub read-set : (tasks : List TaskBlock) (t : ℕ) (x y : TaskBlock) → t < length tasks → y
    ≡ get_or (slice_set tasks t x) t y → y ≡ x
read-set [] t x y l e = absurd (omega arith)
read-set (z ∷ zs) zero x y l e = e
read-set (z ∷ zs) (suc t) x y l e = read-set zs t x y (omega arith) e

map-set : {A B : Type 0} (f : A → B) (xs : List A) (t : ℕ) (x : A) → slice_set (map f xs) t (f x)
    ≡ map f (slice_set xs t x)
map-set f [] t x = refl
map-set f (y ∷ ys) zero x = refl
map-set {A} {B} f (y ∷ ys) (suc t) x = ap (λ (zs : List B). f y ∷ zs) (map-set f ys t x)

-- the place of a home is one of the lists
wait_home-below : (w : WaitQueues) (r : RingLists) (o : Option WaitQueue) → AreLent w r → IsSomeThere w.counts o
    → IsBelow (length r.lists) (wait_home w o)
wait_home-below w r None a l = tt
wait_home-below w r (Some q) a l = head-below w r q a l

pub some_queue : (w : WaitQueues) (sys : SystemTables) (x : TaskBlock) → w ≡ waits_of sys → Fits sys x
    → IsSomeThere w.counts (queue_of x.phase)
some_queue w sys x e f = subst (λ (v : WaitQueues). IsSomeThere v.counts (queue_of x.phase)) (sym e) f.queue

home-below : (w : WaitQueues) (sys : SystemTables) (r : RingLists) (x : TaskBlock) → w ≡ waits_of sys → AreLent w r
    → Fits sys x → IsBelow (length r.lists) (home w x)
home-below w sys r x e a f = by_test (is_ready x) where
  by_test : (b : Bool) → IsBelow (length r.lists) (if b then Some (ready_head x.processor x.priority) else wait_home w
      (queue_of x.phase))
  by_test true =
      let p : x.processor < sys.processors = f.processor in
      let same : w.processors ≡ sys.processors = ap (λ (v : WaitQueues). v.processors) e in
      let high : x.priority ≤ 16 = f.least in
      let low : 1 ≤ x.priority = f.urgent in
      let all : w.processors * 16 + count_of_lists w.counts ≤ length r.lists = a.heads in
      omega arith
  by_test false = wait_home-below w r (queue_of x.phase) a (some_queue w sys x e f)

-- the queue whose list has the place of the list of q is q
queue_with_place-place : (n : ObjectCounts) (q : WaitQueue) → IsThere n q → queue_with_place n (place_of n q) ≡ q
queue_with_place-place n (queue.Semaphore s) l = grind (arith, nat_tests)
queue_with_place-place n (queue.Flag f) l = grind (arith, nat_tests)
queue_with_place-place n (queue.Senders d) l = grind (arith, nat_tests)
queue_with_place-place n (queue.Receivers d) l = grind (arith, nat_tests)
queue_with_place-place n (queue.Mailbox x) l = grind (arith, nat_tests)

-- and its order is that of q
pub queue_order : (w : WaitQueues) (sys : SystemTables) (q : WaitQueue) → IsThere w.counts q
    → order_with_head w sys (head w q) ≡ order_of sys q
queue_order w sys q l =
    let above : w.processors * 16 ≤ head w q = omega arith in
    let rest : head w q - w.processors * 16 ≡ place_of w.counts q = omega arith in
    ap (λ (b : Bool). if b then Fifo else order_of sys (queue_with_place w.counts (head w q - w.processors * 16)))
    (le-ltb (head w q) (w.processors * 16) above)
    ∙ ap (λ (i : ℕ). order_of sys (queue_with_place w.counts i)) rest
    ∙ ap (order_of sys) (queue_with_place-place w.counts q l)

-- queues that are there are the same where their lists are
same_place : (n : ObjectCounts) (q r : WaitQueue) → IsThere n q → IsThere n r → nat_eq (place_of n r) (place_of n q)
    ≡ is_same_queue q r
same_place n (queue.Semaphore s) (queue.Semaphore r) l k = grind (arith, nat_tests)
same_place n (queue.Semaphore s) (queue.Flag r) l k = grind (arith, nat_tests)
same_place n (queue.Semaphore s) (queue.Senders r) l k = grind (arith, nat_tests)
same_place n (queue.Semaphore s) (queue.Receivers r) l k = grind (arith, nat_tests)
same_place n (queue.Semaphore s) (queue.Mailbox r) l k = grind (arith, nat_tests)
same_place n (queue.Flag s) (queue.Semaphore r) l k = grind (arith, nat_tests)
same_place n (queue.Flag s) (queue.Flag r) l k = grind (arith, nat_tests)
same_place n (queue.Flag s) (queue.Senders r) l k = grind (arith, nat_tests)
same_place n (queue.Flag s) (queue.Receivers r) l k = grind (arith, nat_tests)
same_place n (queue.Flag s) (queue.Mailbox r) l k = grind (arith, nat_tests)
same_place n (queue.Senders s) (queue.Semaphore r) l k = grind (arith, nat_tests)
same_place n (queue.Senders s) (queue.Flag r) l k = grind (arith, nat_tests)
same_place n (queue.Senders s) (queue.Senders r) l k = grind (arith, nat_tests)
same_place n (queue.Senders s) (queue.Receivers r) l k = grind (arith, nat_tests)
same_place n (queue.Senders s) (queue.Mailbox r) l k = grind (arith, nat_tests)
same_place n (queue.Receivers s) (queue.Semaphore r) l k = grind (arith, nat_tests)
same_place n (queue.Receivers s) (queue.Flag r) l k = grind (arith, nat_tests)
same_place n (queue.Receivers s) (queue.Senders r) l k = grind (arith, nat_tests)
same_place n (queue.Receivers s) (queue.Receivers r) l k = grind (arith, nat_tests)
same_place n (queue.Receivers s) (queue.Mailbox r) l k = grind (arith, nat_tests)
same_place n (queue.Mailbox s) (queue.Semaphore r) l k = grind (arith, nat_tests)
same_place n (queue.Mailbox s) (queue.Flag r) l k = grind (arith, nat_tests)
same_place n (queue.Mailbox s) (queue.Senders r) l k = grind (arith, nat_tests)
same_place n (queue.Mailbox s) (queue.Receivers r) l k = grind (arith, nat_tests)
same_place n (queue.Mailbox s) (queue.Mailbox r) l k = grind (arith, nat_tests)

shifted : (a x y : ℕ) → nat_eq (a + x) (a + y) ≡ nat_eq x y
shifted a x y = grind (arith, nat_tests)

at_queue : (w : WaitQueues) (q : WaitQueue) (o : Option WaitQueue) → IsThere w.counts q → IsSomeThere w.counts o
    → is_at (head w q) (wait_home w o) ≡ is_queue q o
at_queue w q None l k = refl
at_queue w q (Some r) l k = shifted (w.processors * 16) (place_of w.counts r) (place_of w.counts q)
    ∙ same_place w.counts q r l k

ready_waits : (phase : Phase) (b : Bool) → (is_ready_phase phase && b) ≡ true → queue_of phase ≡ None
ready_waits Dormant b e = refl
ready_waits Ready b e = refl
ready_waits (Waiting c) b e = cc

apart : (a b : ℕ) → a < b → nat_eq a b ≡ false
apart a b h = grind (arith, nat_tests)

-- a task has its home at the list of a queue where it waits there
at_home : (w : WaitQueues) (sys : SystemTables) (x : TaskBlock) (q : WaitQueue) → w ≡ waits_of sys → Fits sys x
    → IsThere w.counts q
    → is_at (head w q) (home w x) ≡ waits_in q x
at_home w sys x q e f l = by_test (is_ready x) refl where
  by_test : (b : Bool) → is_ready x ≡ b
      → is_at (head w q) (if b then Some (ready_head x.processor x.priority) else wait_home w (queue_of x.phase))
      ≡ is_queue q (queue_of x.phase)
  by_test true d =
      let p : x.processor < sys.processors = f.processor in
      let same : w.processors ≡ sys.processors = ap (λ (v : WaitQueues). v.processors) e in
      let high : x.priority ≤ 16 = f.least in
      let low : 1 ≤ x.priority = f.urgent in
      let before : ready_head x.processor x.priority < head w q = omega arith in
      apart (ready_head x.processor x.priority) (head w q) before
      ∙ sym (ap (is_queue q) (ready_waits x.phase (not x.suspended) d))
  by_test false d = at_queue w q (queue_of x.phase) l (some_queue w sys x e f)

no_task : (tasks : List TaskBlock) (t : ℕ) → length tasks ≤ t → queue_of (task_at tasks t).phase ≡ None
no_task [] t l = refl
no_task (x ∷ xs) zero l = absurd (omega arith)
no_task (x ∷ xs) (suc t) l = no_task xs t (omega arith)

lt_of : (a b : ℕ) → nat_lt a b ≡ true → a < b
lt_of a b h = grind (arith, nat_tests)

le_of : (a b : ℕ) → nat_lt a b ≡ false → b ≤ a
le_of a b h = grind (arith, nat_tests)

pub at_task : (w : WaitQueues) (sys : SystemTables) (tasks : List TaskBlock) (q : WaitQueue) (t : ℕ) → w
    ≡ waits_of sys → BlocksFit sys tasks → IsThere w.counts q
    → is_at (head w q) (home w (task_at tasks t)) ≡ waits_in q (task_at tasks t)
at_task w sys tasks q t e h l = by_test (nat_lt t (length tasks)) refl where
  by_test : (b : Bool) → nat_lt t (length tasks) ≡ b → is_at (head w q) (home w (task_at tasks t))
      ≡ waits_in q (task_at tasks t)
  by_test true d = at_home w sys (task_at tasks t) q e (Fits-at t h (lt_of t (length tasks) d)) l
  by_test false d =
      let past : length tasks ≤ t = le_of t (length tasks) d in
      ap (is_at (head w q)) (no_home w tasks t past) ∙ sym (ap (is_queue q) (no_task tasks t past))

-- a block that may take the place of another has its home
home-same : (w : WaitQueues) (x y : TaskBlock) → ready_home y ≡ ready_home x → queue_of y.phase ≡ queue_of x.phase
    → home w y ≡ home w x
home-same w x y e q = by_tests (is_ready y) (is_ready x) e where
  by_tests : (b c : Bool) → some_if b (ready_head y.processor y.priority)
      ≡ some_if c (ready_head x.processor x.priority)
      → (if b then Some (ready_head y.processor y.priority) else wait_home w (queue_of y.phase))
      ≡ (if c then Some (ready_head x.processor x.priority) else wait_home w (queue_of x.phase))
  by_tests true true d = d
  by_tests true false d = cc
  by_tests false true d = cc
  by_tests false false d = ap (wait_home w) q

-- its home by the list's place is its queue's, and so is the order there
stays-priority : (w : WaitQueues) (sys : SystemTables) (x : TaskBlock) (p : ℕ) → w ≡ waits_of sys → Fits sys x
    → (stands_by_priority sys (queue_of x.phase) ≡ true → x.priority ≡ p)
    → (h : ℕ) → is_at h (home w x) ≡ true → is_by_priority (order_with_head w sys h) ≡ true → x.priority ≡ p
stays-priority w sys x p own f s h a b = by_test (is_ready x) a where
  by_queue : (o : Option WaitQueue) → IsSomeThere w.counts o → (stands_by_priority sys o ≡ true → x.priority ≡ p)
      → is_at h (wait_home w o) ≡ true → x.priority ≡ p
  by_queue None k s a = cc
  by_queue (Some q) k s a =
      let same : head w q ≡ h = nat_same (head w q) h a in
      let c : is_by_priority (order_with_head w sys (head w q))
      ≡ true = subst (λ (i : ℕ). is_by_priority (order_with_head w sys i) ≡ true) (sym same) b in
      s (sym (ap is_by_priority (queue_order w sys q k)) ∙ c)

  by_test : (c : Bool) → is_at h (if c then Some (ready_head x.processor x.priority) else wait_home w
      (queue_of x.phase)) ≡ true → x.priority ≡ p
  by_test false d = by_queue (queue_of x.phase) (some_queue w sys x own f) s d
  by_test true d =
      let same : ready_head x.processor x.priority ≡ h = nat_same (ready_head x.processor x.priority) h d in
      let here : x.processor < sys.processors = f.processor in
      let count : w.processors ≡ sys.processors = ap (λ (v : WaitQueues). v.processors) own in
      let high : x.priority ≤ 16 = f.least in
      let low : 1 ≤ x.priority = f.urgent in
      let before : h < w.processors * 16 = omega arith in
      let fifo : is_by_priority (order_with_head w sys h) ≡ false = ap is_by_priority (ready_fifo w sys h before) in
      cc

deadlines-set : (tasks : List TaskBlock) (t : ℕ) (x : TaskBlock) (deadlines : List (Option ℕ)) → deadlines
    ≡ map (λ x. x.deadline) tasks
    → slice_set deadlines t x.deadline ≡ map (λ x. x.deadline) (slice_set tasks t x)
deadlines-set tasks t x deadlines e = ap (λ (ds : List (Option ℕ)). slice_set ds t x.deadline) e
    ∙ map-set (λ (y : TaskBlock). y.deadline) tasks t x

module _ {sys : SystemTables} {tasks : List TaskBlock} {order ready : List ℕ} {waits : WaitQueues} {rings : RingLists}
    {deadlines : List (Option ℕ)} (k : Sound sys tasks order ready waits rings deadlines) where
  pub own_processors : waits.processors ≡ length ready
  own_processors = ap (λ (w : WaitQueues). w.processors) k.own_waits ∙ sym k.processors

  pub own_counts : waits.counts ≡ counts_of sys
  own_counts = ap (λ (w : WaitQueues). w.counts) k.own_waits

  pub lent : AreLent waits rings
  lent =
      subst (λ (w : WaitQueues). AreLent w rings) (sym k.own_waits) (record {
        few = k.exact.few;
        heads = let all : length rings.lists ≡ sys.processors * 16 + count_of_lists (counts_of
            sys) = k.heads in omega arith;
      })

  -- there is a list for each ready queue
  pub lists-enough : waits.processors * 16 ≤ length rings.lists
  lists-enough =
      let all : length rings.lists ≡ sys.processors * 16 + count_of_lists (counts_of sys) = k.heads in
      let same : waits.processors ≡ sys.processors = ap (λ (w : WaitQueues). w.processors) k.own_waits in
      omega arith

  -- a task that stands in the order is in the list of its home
  pub home-among : (t : ℕ) → t < length tasks → IsAmong t rings.lists (home waits (task_at tasks t))
  home-among t l =
      among (home waits) (order_with_head waits sys) tasks order rings.lists t k.kept k.standing l
      (home-below waits sys rings (task_at tasks t) k.own_waits lent (Fits-at t k.blocks l))
      (λ h e. home_stands waits (task_at tasks t) h e)

  -- and when it has left that it is in none
  pub home-free : (t : ℕ) → is_linked t (left_from rings.lists (home waits (task_at tasks t)) t) ≡ false
  home-free t = free-after (home waits) (order_with_head waits sys) tasks order rings.lists t k.kept

  -- the list of a queue is that queue
  pub wait_list : (q : WaitQueue) → IsThere waits.counts q
      → list_at rings.lists (head waits q) ≡ arranged (order_of sys q) (priority_in tasks)
      (filter (λ t. waits_in q (task_at tasks t)) order)
  wait_list q l =
      k.kept.each (head waits q) (head-below waits rings q lent l)
      ∙ ap (λ (by : QueueOrder). arranged by (priority_in tasks) (filter
      (λ t. is_at (head waits q) (home waits (task_at tasks t))) order)) (queue_order waits sys q l)
      ∙ ap (arranged (order_of sys q) (priority_in tasks))
      (filter_agree (λ t. is_at (head waits q) (home waits (task_at tasks t))) (λ t. waits_in q (task_at tasks t))
      (λ t. at_task waits sys tasks q t k.own_waits k.blocks l) order)

  module _ (t : ℕ) (x : TaskBlock) (l : t < length tasks) (f : Fits sys x) where
    -- after task t, which was another, became x and went to the end
    pub Sound-last : (old : TaskBlock) (after : List ℕ) (r : RingLists) → is_in_order x ≡ true → task_at tasks t ≡ old
        → length after ≡ length ready → AreExact after r
        → r ≡ record rings {
          lists = joined_to (order_with_head waits sys) (priority_in
              (slice_set tasks t x)) (left_from rings.lists (home waits old) t) (home waits x) t;
        }
        → Sound sys (slice_set tasks t x) (to_end order t) after waits r (slice_set deadlines t x.deadline)
    Sound-last old after r i is as_long exact e = record {
      configs = rw length-set k.configs;
      blocks = BlocksFit-set t x k.blocks f;
      distinct = rw length-set (IsOrder-to_end _ _ _ k.distinct l);
      standing = Standing-last tasks order t x k.standing l i;
      processors = as_long ∙ k.processors;
      exact = exact;
      own_waits = k.own_waits;
      nodes = ap (λ (q : RingLists). q.nodes) e ∙ rw length-set k.nodes;
      heads =
          ap (λ (q : RingLists). length q.lists) e
          ∙ length-joined_to (order_with_head waits sys) (priority_in (slice_set tasks t x))
          (left_from rings.lists (home waits old) t) (home waits x) t
          ∙ length-left_from rings.lists (home waits old) t ∙ k.heads;
      kept =
          subst (λ (q : RingLists). Kept (home waits) (order_with_head waits sys) (slice_set tasks t x)
          (to_end order t) q.lists) (sym e)
          (subst (λ (y : TaskBlock). Kept (home waits) (order_with_head waits sys) (slice_set tasks t x)
          (to_end order t)
          (joined_to (order_with_head waits sys) (priority_in (slice_set tasks t x))
          (left_from rings.lists (home waits y) t)
          (home waits x) t)) is
          (Kept-last (home waits) (order_with_head waits sys) tasks order rings.lists t x l k.kept));
      deadlines_kept = deadlines-set tasks t x deadlines k.deadlines_kept;
    }

    -- after it became x and left the order
    pub Sound-left : (old : TaskBlock) (after : List ℕ) (r : RingLists) → is_in_order x ≡ false → task_at tasks t ≡ old
        → length after ≡ length ready → AreExact after r
        → r ≡ record rings { lists = left_from rings.lists (home waits old) t }
        → Sound sys (slice_set tasks t x) (without order t) after waits r (slice_set deadlines t x.deadline)
    Sound-left old after r i is as_long exact e = record {
      configs = rw length-set k.configs;
      blocks = BlocksFit-set t x k.blocks f;
      distinct = rw length-set (IsOrder-without _ _ _ k.distinct);
      standing = Standing-left tasks order t x k.standing l i;
      processors = as_long ∙ k.processors;
      exact = exact;
      own_waits = k.own_waits;
      nodes = ap (λ (q : RingLists). q.nodes) e ∙ rw length-set k.nodes;
      heads = ap (λ (q : RingLists). length q.lists) e ∙ length-left_from rings.lists (home waits old) t ∙ k.heads;
      kept =
          subst (λ (q : RingLists). Kept (home waits) (order_with_head waits sys) (slice_set tasks t x)
          (without order t) q.lists) (sym e)
          (subst (λ (y : TaskBlock). Kept (home waits) (order_with_head waits sys) (slice_set tasks t x)
          (without order t) (left_from rings.lists (home waits y) t)) is
          (Kept-left (home waits) (order_with_head waits sys) tasks order rings.lists t x k.kept));
      deadlines_kept = deadlines-set tasks t x deadlines k.deadlines_kept;
    }

    -- after it became x, in its place
    pub Sound-stays : Stays sys (task_at tasks t) x → Sound sys (slice_set tasks t x) order ready waits rings
        (slice_set deadlines t x.deadline)
    Sound-stays s = record {
      configs = rw length-set k.configs;
      blocks = BlocksFit-set t x k.blocks f;
      distinct = rw length-set k.distinct;
      standing = Standing-stays tasks order t x k.standing l s.in_order;
      processors = k.processors;
      exact = k.exact;
      own_waits = k.own_waits;
      nodes = rw length-set k.nodes;
      heads = k.heads;
      kept =
          Kept-stays (home waits) (order_with_head waits sys) tasks order rings.lists t x l k.kept
          (home-same waits (task_at tasks t) x s.ready s.queue)
          (stays-priority waits sys x (priority_in tasks t) k.own_waits f s.priority);
      deadlines_kept = deadlines-set tasks t x deadlines k.deadlines_kept;
    }
