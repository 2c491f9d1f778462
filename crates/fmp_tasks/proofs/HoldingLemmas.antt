-- Who stands behind a task in the lists stands behind it in its queue; so with messages.
use Rattle.std.proofs.Common.{◌≡◌, ℕ, zero, suc, ◌<◌, ◌≤◌, List, [], ◌∷◌, Option, Some, None, Bool, true, false, nat_eq}
use Rattle.std.proofs.Common.{nat_lt, refl, ap, ◌∙◌, sym, subst, arith, length}
use Rattle.std.specs.Prelude.{◌&&◌, ◌||◌, filter, if◌then◌else◌}
use Rattle.std.specs.List.{list_any}
use Rattle.std.proofs.lemmas.Bool.Decides.{nat_tests}
use Rattle.fmp_base.specs.declared.states.TaskBlock.{TaskBlock}
use Rattle.fmp_base.specs.declared.states.WaitQueue.{WaitQueue}
use Rattle.fmp_base.specs.declared.systems.QueueOrder.{QueueOrder}
use Rattle.fmp_base.specs.declared.systems.QueueOrder.TheVariants.{Fifo, Priority}
use Rattle.fmp_base.specs.Queues.{arranged, is_ready, priority_in, queue_of, ready_queue}
use Rattle.fmp_base.specs.States.{KernelState, task_at}
use Rattle.fmp_base.specs.Systems.{SystemTables}
use Rattle.fmp_ready.specs.ReadyLists.{head as ready_head}
use Rattle.fmp_ring.specs.LinkedLaws.{is_linked-none, is_linked-some}
use Rattle.fmp_ring.specs.OrderLaws.{nat_same}
use Rattle.fmp_ring.specs.RingLists.{RingLists, follower, is_in, is_linked, list_at}
use Rattle.fmp_waitq.specs.declared.queues.WaitQueues.{WaitQueues}
use Rattle.fmp_tasks.specs.Holding.{waiting_there, queue_holding, messages_holding}
use Rattle.fmp_tasks.specs.Homes.{Fits, IsAmong, IsSomeThere, home, is_at, order_with_head, wait_home}
use Rattle.fmp_tasks.specs.Tables.{Sound}
use Rattle.fmp_tasks.proofs.SoundLemmas.{home-among, lists-enough, some_queue, wait_list}
use Rattle.fmp_tasks.proofs.StandLemmas.{any-filter, any-sorted}
use Rattle.fmp_tasks.proofs.TopLemmas.{Fits-at, no_home, ready_list}

lt_of : (a b : ℕ) → nat_lt a b ≡ true → a < b
lt_of a b h = grind (arith, nat_tests)

le_of : (a b : ℕ) → nat_lt a b ≡ false → b ≤ a
le_of a b h = grind (arith, nat_tests)

any-arranged : (by : QueueOrder) (p : ℕ → Bool) (f : ℕ → ℕ) (l : List ℕ) → list_any p (arranged by f l) ≡ list_any p l
any-arranged Fifo p f l = refl
any-arranged Priority p f l = any-sorted p f l

both : (a b : Bool) → (a && b) ≡ true → a ≡ true
both true b h = refl
both false b h = cc

at_home : (h : ℕ) (o : Option ℕ) → is_at h o ≡ true → o ≡ Some h
at_home h None e = cc
at_home h (Some g) e = ap (λ (k : ℕ). Some k) (nat_same g h e)

-- the list at a place, if it is one
abbrev listed : List (List ℕ) → Option ℕ → List ℕ
listed lists None = []
listed lists (Some h) = list_at lists h

-- there is nobody beyond the tasks
beyond : (tasks : List TaskBlock) (t : ℕ) → length tasks ≤ t → task_at tasks t ≡ task_at [] 0
beyond [] t l = refl
beyond (x ∷ xs) zero l = absurd (omega arith)
beyond (x ∷ xs) (suc t) l = beyond xs t (omega arith)

held-beyond : (sys : SystemTables) (s : KernelState) (t : ℕ) → length s.tasks ≤ t → queue_holding sys s t ≡ []
held-beyond sys s t l =
    ap (λ (x : TaskBlock). if is_ready x then filter (λ u. nat_eq (priority_in s.tasks u) x.priority)
    (ready_queue s x.processor)
    else waiting_there sys s (queue_of x.phase)) (beyond s.tasks t l)

module _ {sys : SystemTables} (s : KernelState) {ready : List ℕ} {waits : WaitQueues} {rings : RingLists}
    {deadlines : List (Option ℕ)} (k : Sound sys s.tasks s.order ready waits rings deadlines) where
  by_queue : (o : Option WaitQueue) → IsSomeThere waits.counts o → listed rings.lists (wait_home waits o)
      ≡ waiting_there sys s o
  by_queue None l = refl
  by_queue (Some q) l = wait_list k q l

  -- the list of a task's home is the queue in which it stands
  held-line : (t : ℕ) → t < length s.tasks → listed rings.lists (home waits (task_at s.tasks t)) ≡ queue_holding sys s t
  held-line t l = by_test (is_ready x) where
    x : TaskBlock
    x = task_at s.tasks t

    f : Fits sys (task_at s.tasks t)
    f = Fits-at t k.blocks l

    p : (task_at s.tasks t).processor < waits.processors
    p = subst (λ (n : ℕ). (task_at s.tasks t).processor < n) (sym (ap (λ (w : WaitQueues). w.processors) k.own_waits))
        f.processor

    by_test : (b : Bool)
        → listed rings.lists (if b then Some (ready_head (task_at s.tasks t).processor (task_at s.tasks t).priority)
        else wait_home waits (queue_of (task_at s.tasks t).phase))
        ≡ (if b then filter (λ u. nat_eq (priority_in s.tasks u) (priority_in s.tasks t))
        (ready_queue s (task_at s.tasks t).processor)
        else waiting_there sys s (queue_of (task_at s.tasks t).phase))
    by_test true = ready_list waits sys s.tasks s.order rings.lists (task_at s.tasks t).processor
        (task_at s.tasks t).priority k.blocks k.kept p
        f.urgent f.least (lists-enough k)
    by_test false = by_queue (queue_of (task_at s.tasks t).phase) (some_queue waits sys
        (task_at s.tasks t) k.own_waits f)

  -- who stands in a list has its home there
  home-of : (t h : ℕ) → h < length rings.lists → is_in t (list_at rings.lists h) ≡ true
      → home waits (task_at s.tasks t) ≡ Some h
  home-of t h l i =
      let F : ℕ → Bool = λ u. is_at h (home waits (task_at s.tasks u)) in
      at_home h (home waits (task_at s.tasks t))
      (both (is_at h (home waits (task_at s.tasks t))) (list_any (nat_eq t) s.order)
      (sym (any-filter F t s.order)
      ∙ (sym (any-arranged (order_with_head waits sys h) (nat_eq t) (priority_in s.tasks) (filter F s.order))
      ∙ (sym (ap (list_any (nat_eq t)) (k.kept.each h l)) ∙ i))))

  pub behind-linked : (t : ℕ) (o : Option ℕ) → is_linked t rings.lists ≡ true
      → ((h : ℕ) → is_in t (list_at rings.lists h) ≡ true → o ≡ follower t (list_at rings.lists h))
      → o ≡ follower t (queue_holding sys s t)
  behind-linked t o link each =
      let found = is_linked-some t rings.lists link in
      let here : home waits (task_at s.tasks t) ≡ Some found.0 = home-of t found.0 found.1 found.2 in
      by_test (nat_lt t (length s.tasks)) refl found.0 (each found.0 found.2) here where
        by_test : (b : Bool) → nat_lt t (length s.tasks) ≡ b → (h : ℕ) → o ≡ follower t (list_at rings.lists h)
            → home waits (task_at s.tasks t) ≡ Some h → o ≡ follower t (queue_holding sys s t)
        by_test true e h is here =
            is ∙ ap (follower t) (sym (ap (listed rings.lists) here) ∙ held-line t (lt_of t (length s.tasks) e))
        by_test false e h is here =
            let none : None ≡ Some h = sym (no_home waits s.tasks t (le_of t (length s.tasks) e)) ∙ here in cc

  pub behind-none : (t : ℕ) → is_linked t rings.lists ≡ false → None ≡ follower t (queue_holding sys s t)
  behind-none t link = by_test (nat_lt t (length s.tasks)) refl where
    by_home : (o : Option ℕ) → home waits (task_at s.tasks t) ≡ o → IsAmong t rings.lists o → t < length s.tasks
        → None ≡ follower t (queue_holding sys s t)
    by_home None e i l = ap (follower t) (sym (ap (listed rings.lists) e) ∙ held-line t l)
    by_home (Some h) e i l =
        let no : is_in t (list_at rings.lists h) ≡ false = is_linked-none t rings.lists link h in
        let yes : is_in t (list_at rings.lists h) ≡ true = i in
        let clash : true ≡ false = sym yes ∙ no in cc

    by_test : (b : Bool) → nat_lt t (length s.tasks) ≡ b → None ≡ follower t (queue_holding sys s t)
    by_test true e =
        let l : t < length s.tasks = lt_of t (length s.tasks) e in
        by_home (home waits (task_at s.tasks t)) refl (home-among k t l) l
    by_test false e = ap (follower t) (sym (held-beyond sys s t (le_of t (length s.tasks) e)))

-- the mailbox that holds a message is one of them
mailbox-there : (lists : List (List ℕ)) (g : ℕ) → is_linked g lists ≡ true
    → (h : ℕ) × (is_in g (list_at lists h) ≡ true) × (list_at lists h ≡ messages_holding lists g)
mailbox-there [] g k = cc
mailbox-there (l ∷ ls) g k = by_test (is_in g l) refl k (mailbox-there ls g) where
  by_test : (b : Bool) → is_in g l ≡ b → (b || is_linked g ls) ≡ true
      → (is_linked g ls ≡ true → (h : ℕ) × (is_in g (list_at ls h) ≡ true) × (list_at ls h ≡ messages_holding ls g))
      → (h : ℕ) × (is_in g (list_at (l ∷ ls) h) ≡ true)
      × (list_at (l ∷ ls) h ≡ (if b then l else messages_holding ls g))
  by_test true e r rest = (zero, e, refl)
  by_test false e r rest = let f = rest r in (suc f.0, f.1, f.2)

pub message-behind-linked : (lists : List (List ℕ)) (g : ℕ) (o : Option ℕ) → is_linked g lists ≡ true
    → ((h : ℕ) → is_in g (list_at lists h) ≡ true → o ≡ follower g (list_at lists h))
    → o ≡ follower g (messages_holding lists g)
message-behind-linked lists g o link each =
    let found = mailbox-there lists g link in each found.0 found.1 ∙ ap (follower g) found.2

pub message-behind-none : (lists : List (List ℕ)) (g : ℕ) → is_linked g lists ≡ false
    → None ≡ follower g (messages_holding lists g)
message-behind-none lists g link = ap (follower g) (sym (nowhere lists link)) where
  nowhere : (lists : List (List ℕ)) → is_linked g lists ≡ false → messages_holding lists g ≡ []
  nowhere [] k = refl
  nowhere (l ∷ ls) k = by_test (is_in g l) k (nowhere ls) where
    by_test : (b : Bool) → (b || is_linked g ls) ≡ false → (is_linked g ls ≡ false → messages_holding ls g ≡ [])
        → (if b then l else messages_holding ls g) ≡ []
    by_test true k rest = cc
    by_test false k rest = rest k
