-- A task that is off stays so in every service call that has no line that starts it.
use Rattle.std.proofs.Common.{◌≡◌, ◌+◌, ◌^◌, ℕ, zero, suc, ℤ, pos, List, [], ◌∷◌, ◌++◌, Option, Some, None, Bool, true}
use Rattle.std.proofs.Common.{false, ◌&&◌, ◌||◌, not, refl, ap, subst, nat_eq, nat_le, nat_lt, length, get_or, filter}
use Rattle.std.proofs.Common.{cond, if◌then◌else◌}
use Rattle.std.specs.List.{AllByRecursion}
use Rattle.fmp_base.specs.declared.calls.Call.{Call}
use Rattle.fmp_base.specs.declared.calls.Call.TheVariants as call
use Rattle.fmp_base.specs.declared.calls.Reply.{Reply}
use Rattle.fmp_base.specs.declared.codes.Er.{Er}
use Rattle.fmp_base.specs.declared.codes.Er.TheVariants as er
use Rattle.fmp_base.specs.declared.states.Caller.{Caller}
use Rattle.fmp_base.specs.declared.states.Caller.TheVariants as caller
use Rattle.fmp_base.specs.declared.states.FlagMode.{FlagMode}
use Rattle.fmp_base.specs.declared.states.Handler.{Handler}
use Rattle.fmp_base.specs.declared.states.Lock.{Lock}
use Rattle.fmp_base.specs.declared.states.Lock.TheVariants.{Free, Cpu, Spin}
use Rattle.fmp_base.specs.declared.states.Phase.{Phase}
use Rattle.fmp_base.specs.declared.states.Phase.TheVariants.{Dormant, Ready, Waiting}
use Rattle.fmp_base.specs.declared.states.TaskBlock.{TaskBlock}
use Rattle.fmp_base.specs.declared.states.TimeLimit.{TimeLimit}
use Rattle.fmp_base.specs.declared.states.TimeLimit.TheVariants as limit
use Rattle.fmp_base.specs.declared.states.WaitCause.{WaitCause}
use Rattle.fmp_base.specs.declared.states.WaitCause.TheVariants as cause
use Rattle.fmp_base.specs.declared.states.WaitQueue.{WaitQueue}
use Rattle.fmp_base.specs.declared.states.WaitQueue.TheVariants as queue
use Rattle.fmp_base.specs.declared.systems.QueueOrder.{QueueOrder}
use Rattle.fmp_base.specs.declared.systems.QueueOrder.TheVariants.{Fifo, Priority}
use Rattle.fmp_base.specs.Calls.{case_of, called}
use Rattle.fmp_base.specs.Changes.{released}
use Rattle.fmp_base.specs.DataQueueCalls.{words_at, with_words, has_room, queued_by, word_sent_to, word_sent, forced_in}
use Rattle.fmp_base.specs.DataQueueCalls.{forced_to, offered_word, oldest_taken, sender_taken_from, word_received_from}
use Rattle.fmp_base.specs.FlagCalls.{pattern_at, satisfies, is_satisfied, walked, walk, obtained, awaited_by, is_empty}
use Rattle.fmp_base.specs.FlagCalls.{mode_of, flag_tested, awaited}
use Rattle.fmp_base.specs.MailboxCalls.{messages_at, message_priority, is_queued, message_sent_to, message_taken_from}
use Rattle.fmp_base.specs.Outcomes.{CallOutcome, code, given, refused, waits, waits_within, limit_of, numbered, ranged}
use Rattle.fmp_base.specs.Outcomes.{tested, refused_if, on_task}
use Rattle.fmp_base.specs.Permissions.{permission, is_barred}
use Rattle.fmp_base.specs.ProcessorCalls.{cpu_locked_from, cpu_unlocked_from, is_held, is_spin, spin_lock_taken}
use Rattle.fmp_base.specs.Queues.{arranged, first_of, first_ready, first_waiting, is_by_priority, is_queue, is_ready}
use Rattle.fmp_base.specs.Queues.{order_of, placed, priority_in, queue_of, sorted, wait_queue, waits_in}
use Rattle.fmp_base.specs.SemaphoreCalls.{signalled_to, acquired_by}
use Rattle.fmp_base.specs.Services.{service_of}
use Rattle.fmp_base.specs.States.{KernelState, Progress, unchanged, clock_after, task_at, processor_at}
use Rattle.fmp_base.specs.Systems.{SystemTables, semaphore_config, flag_config, data_queue_config, mailbox_config}
use Rattle.fmp_base.specs.TaskCalls.{is_dormant, self_or, by_number, activated_by, goes_last, moved_by, or_if_zero}
use Rattle.fmp_base.specs.TaskCalls.{allowed_processor, activated_on_by, assigned_by, slept_by, wakeup_queued}
use Rattle.fmp_base.specs.TaskCalls.{woken_from, woken_by, released_by, resumed_by, rotated}
use Rattle.fmp_bisimulation.specs.Alike.{is_none, is_off}
use Rattle.fmp_bisimulation.proofs.RestLaws.{Rests, rests-still, rests-kept, rests-waits, rests-started, rests-released}
use Rattle.fmp_bisimulation.proofs.RestLaws.{rests-ended, rests-ended_itself, rests-suspended}

-- tasks in a queue wait
every-filter : (f : ℕ → Bool) (l : List ℕ) → AllByRecursion (λ t. f t ≡ true) (filter f l)
every-filter f [] = tt
every-filter f (t ∷ ts) = by_test (f t) refl (every-filter f ts) where
  by_test : (b : Bool) → f t ≡ b → AllByRecursion (λ u. f u ≡ true) (filter f ts)
      → AllByRecursion (λ u. f u ≡ true) (cond b (t ∷ filter f ts) (filter f ts))
  by_test true e rest = (e, rest)
  by_test false e rest = rest

every-placed : (P : ℕ → Type 0) (f : ℕ → ℕ) (t : ℕ) (l : List ℕ) → P t → AllByRecursion P l
    → AllByRecursion P (placed f t l)
every-placed P f t [] h k = (h, tt)
every-placed P f t (u ∷ us) h (k, ks) = by_test (nat_le (f t) (f u)) (every-placed P f t us h ks) where
  by_test : (b : Bool) → AllByRecursion P (placed f t us) → AllByRecursion P (cond b (t ∷ u ∷ us) (u ∷ placed f t us))
  by_test true rest = (h, (k, ks))
  by_test false rest = (k, rest)

every-arranged : (P : ℕ → Type 0) (o : QueueOrder) (f : ℕ → ℕ) (l : List ℕ) → AllByRecursion P l
    → AllByRecursion P (arranged o f l)
every-arranged P Fifo f l h = h
every-arranged P Priority f [] h = tt
every-arranged P Priority f (t ∷ ts) (h, hs) = every-placed P f t (sorted f ts) h (every-arranged P Priority f ts hs)

every-first : (P : ℕ → Type 0) (l : List ℕ) (t : ℕ) → AllByRecursion P l → first_of l ≡ Some t → P t
every-first P [] t h e = cc
every-first P (u ∷ us) t (h, hs) e = let same : u ≡ t = cc in subst P same h

queued-on : (q : WaitQueue) (p : Phase) (d : Bool) → is_queue q (queue_of p) ≡ true → (is_dormant p && d) ≡ false
queued-on q Dormant d e = cc
queued-on q Ready d e = refl
queued-on q (Waiting c) d e = refl

satisfied-on : (p : Phase) (bits : ℕ) (d : Bool) → is_satisfied p bits ≡ true → (is_dormant p && d) ≡ false
satisfied-on Dormant bits d e = cc
satisfied-on Ready bits d e = refl
satisfied-on (Waiting c) bits d e = refl

waiting-on : (x : TaskBlock) (c : WaitCause) → x.phase ≡ Waiting c → is_off x ≡ false
waiting-on x c e = ap (λ (p : Phase). is_dormant p && is_none x.deadline) e

first_waiting-on : (sys : SystemTables) (s : KernelState) (q : WaitQueue) (t : ℕ) → first_waiting sys s q ≡ Some t
    → is_off (task_at s.tasks t) ≡ false
first_waiting-on sys s q t e =
    let x = task_at s.tasks t in
    let waits : waits_in q x ≡ true =
    every-first (λ u. waits_in q (task_at s.tasks u) ≡ true) (wait_queue sys s q) t
    (every-arranged (λ u. waits_in q (task_at s.tasks u) ≡ true) (order_of sys q) (priority_in s.tasks)
    (filter (λ u. waits_in q (task_at s.tasks u)) s.order) (every-filter
    (λ u. waits_in q (task_at s.tasks u)) s.order)) e in
    queued-on q x.phase (is_none x.deadline) waits

walked-rests : (s : KernelState) (satisfied clears : Bool) (f : ℕ) (g after : Progress) (rest : Progress → Progress)
    → Rests s g
    → (satisfied ≡ true → Rests s after) → ((i : Progress) → Rests s i → Rests s (rest i))
    → Rests s (walked satisfied clears f g after rest)
walked-rests s false clears f g after rest h k go = go g h
walked-rests s true false f g after rest h k go = go after (k refl)
walked-rests s true true f g after rest h k go = k refl

walk-rests : (s : KernelState) (clears : Bool) (f bits : ℕ) (ts : List ℕ) (g : Progress) → Rests s g
    → Rests s (walk clears f bits ts g)
walk-rests s clears f bits [] g h = h
walk-rests s clears f bits (t ∷ ts) g h =
    let x = task_at g.state.tasks t in
    walked-rests s (is_satisfied x.phase bits) clears f g (released g t x (given (pos bits)))
    (λ z. walk clears f bits ts z) h
    (λ e. rests-released s g t x (given (pos bits)) h (satisfied-on x.phase bits (is_none x.deadline) e))
    (λ i k. walk-rests s clears f bits ts i k)

-- a caller that is a task is not off
abbrev pub IsCaller : KernelState → Caller → Type 0
IsCaller s (caller.Task t) = is_off (task_at s.tasks t) ≡ false
IsCaller s (caller.Handler h) = Unit {0}

module _ (sys : SystemTables) (s : KernelState) where
  abbrev Rest : CallOutcome → Type 0
  Rest o = Rests s o.progress

  still : Rests s (unchanged s)
  still = rests-still s

  tested-rests : {A : Type 0} (e : Er) (o : Option A) (f : A → CallOutcome) → ((a : A) → Rest (f a))
      → Rest (tested s e o f)
  tested-rests e None f k = still
  tested-rests e (Some a) f k = k a

  refused_if-rests : (b : Bool) (e : Er) (o : CallOutcome) → Rest o → Rest (refused_if b s e o)
  refused_if-rests true e o k = still
  refused_if-rests false e o k = k

  on_task-rests : (o : Option ℕ) (f : ℕ → TaskBlock → CallOutcome) → ((t : ℕ) → Rest (f t (task_at s.tasks t)))
      → Rest (on_task s o f)
  on_task-rests None f k = still
  on_task-rests (Some t) f k = k t

  either-rests : (b : Bool) (o p : CallOutcome) → Rest o → Rest p → Rest (if b then o else p)
  either-rests true o p h k = h
  either-rests false o p h k = k

  releases : (t : ℕ) (reply : Reply) → is_off (task_at s.tasks t) ≡ false
      → Rests s (released (unchanged s) t (task_at s.tasks t) reply)
  releases t reply on = rests-released s (unchanged s) t (task_at s.tasks t) reply still on

  activated_by-rests : (p : Phase) (t : ℕ) → Rest (activated_by p sys s t (task_at s.tasks t))
  activated_by-rests Dormant t = rests-started sys s (unchanged s) t (task_at s.tasks t) still
  activated_by-rests Ready t =
      either-rests (nat_lt (task_at s.tasks t).activations sys.queue_limit) _ (refused s er.Qovr)
      (rests-kept s t _ refl) still
  activated_by-rests (Waiting c) t =
      either-rests (nat_lt (task_at s.tasks t).activations sys.queue_limit) _ (refused s er.Qovr)
      (rests-kept s t _ refl) still

  moved_by-rests : (b : Bool) (t : ℕ) (y : TaskBlock) → is_off y ≡ is_off (task_at s.tasks t)
      → Rests s (unchanged (moved_by b s t y))
  moved_by-rests true t y e = rests-kept s t y e
  moved_by-rests false t y e = rests-kept s t y e

  activated_on_by-rests : (p : Phase) (t c : ℕ) → Rest (activated_on_by p sys s t (task_at s.tasks t) c)
  activated_on_by-rests Dormant t c = rests-started sys s (unchanged s) t
      (record (task_at s.tasks t) { processor = c }) still
  activated_on_by-rests Ready t c =
      either-rests (nat_lt (task_at s.tasks t).activations sys.queue_limit) _ (refused s er.Qovr)
      (rests-kept s t _ refl) still
  activated_on_by-rests (Waiting w) t c =
      either-rests (nat_lt (task_at s.tasks t).activations sys.queue_limit) _ (refused s er.Qovr)
      (rests-kept s t _ refl) still

  assigned_by-rests : (b : Bool) (t c : ℕ) → Rests s (unchanged (assigned_by b s t (task_at s.tasks t) c))
  assigned_by-rests true t c = still
  assigned_by-rests false t c = moved_by-rests (is_ready (task_at s.tasks t)) t
      (record (task_at s.tasks t) { processor = c }) refl

  wakeup_queued-rests : (t : ℕ) → Rest (wakeup_queued sys s t (task_at s.tasks t))
  wakeup_queued-rests t =
      either-rests (nat_lt (task_at s.tasks t).wakeups sys.queue_limit) _ (refused s er.Qovr)
      (rests-kept s t _ refl) still

  woken_from-rests : (c : WaitCause) (t : ℕ) → is_off (task_at s.tasks t) ≡ false
      → Rest (woken_from c sys s t (task_at s.tasks t))
  woken_from-rests cause.Sleep t on = releases t (code er.Ok) on
  woken_from-rests c t on = wakeup_queued-rests t

  woken_by-rests : (p : Phase) (t : ℕ) → (task_at s.tasks t).phase ≡ p → Rest (woken_by p sys s t (task_at s.tasks t))
  woken_by-rests Dormant t e = still
  woken_by-rests Ready t e = wakeup_queued-rests t
  woken_by-rests (Waiting c) t e = woken_from-rests c t (waiting-on (task_at s.tasks t) c e)

  released_by-rests : (p : Phase) (t : ℕ) → (task_at s.tasks t).phase ≡ p → Rest (released_by p s t (task_at s.tasks t))
  released_by-rests Dormant t e = still
  released_by-rests Ready t e = still
  released_by-rests (Waiting c) t e = releases t (code er.Rlwai) (waiting-on (task_at s.tasks t) c e)

  resumed_by-rests : (p : Phase) (t : ℕ) (y : TaskBlock) → is_off y ≡ is_off (task_at s.tasks t)
      → Rests s (unchanged (resumed_by p s t y))
  resumed_by-rests Dormant t y e = rests-kept s t y e
  resumed_by-rests Ready t y e = rests-kept s t y e
  resumed_by-rests (Waiting c) t y e = rests-kept s t y e

  rotated-rests : (o : Option ℕ) → Rests s (unchanged (rotated s o))
  rotated-rests None = still
  rotated-rests (Some t) = rests-kept s t (task_at s.tasks t) refl

  signalled_to-rests : (o : Option ℕ) (i n : ℕ) → ((t : ℕ) → o ≡ Some t → is_off (task_at s.tasks t) ≡ false)
      → Rest (signalled_to o sys s i n)
  signalled_to-rests None i n on = either-rests (nat_lt n (semaphore_config sys i).most) _
      (refused s er.Qovr) still still
  signalled_to-rests (Some t) i n on = releases t (code er.Ok) (on t refl)

  sends : (i : ℤ) → Rest (case_of sys s 0 0 (task_at [] 0) (call.SigSem i))
  sends i =
      tested-rests er.Id (numbered (length s.semaphores) i) _
      (λ n. signalled_to-rests (first_waiting sys s (queue.Semaphore n)) n (get_or s.semaphores n 0)
      (λ t e. first_waiting-on sys s (queue.Semaphore n) t e))

  sets : (f b : ℤ) → Rest (case_of sys s 0 0 (task_at [] 0) (call.SetFlg f b))
  sets f b =
      tested-rests er.Id (numbered (length s.flags) f) _ (λ i. tested-rests er.Par (ranged 0 65535 b) _
      (λ bits. walk-rests s (flag_config sys i).clears i _ (wait_queue sys s (queue.Flag i)) _ still))

  word_sent_to-rests : (o : Option ℕ) (me : ℕ) (x : TaskBlock) (m : TimeLimit) (d : ℕ) (w : ℤ)
      → ((t : ℕ) → o ≡ Some t → is_off (task_at s.tasks t) ≡ false) → Rest (waits_within m s me x (cause.Sending d w))
      → Rest (word_sent_to o sys s me x m d w)
  word_sent_to-rests (Some t) me x m d w on k = releases t (given w) (on t refl)
  word_sent_to-rests None me x m d w on k = by_room (has_room sys s d) where
    by_room : (b : Bool) → Rest (queued_by b s me x m d w)
    by_room true = still
    by_room false = k

  word_sent-rests : (me : ℕ) (x : TaskBlock) (m : TimeLimit) (d : ℕ) (w : ℤ)
      → Rest (waits_within m s me x (cause.Sending d w))
      → Rest (word_sent sys s me x w m d)
  word_sent-rests me x m d w k =
      word_sent_to-rests (first_waiting sys s (queue.Receivers d)) me x m d w
      (λ t e. first_waiting-on sys s (queue.Receivers d) t e) k

  forced_to-rests : (o : Option ℕ) (d : ℕ) (w : ℤ) → ((t : ℕ) → o ≡ Some t → is_off (task_at s.tasks t) ≡ false)
      → Rest (forced_to o sys s d w)
  forced_to-rests (Some t) d w on = releases t (given w) (on t refl)
  forced_to-rests None d w on = by_room (has_room sys s d) where
    by_room : (b : Bool) → Rest (forced_in b s d w)
    by_room true = still
    by_room false = still

  forces : (d w : ℤ) → Rest (case_of sys s 0 0 (task_at [] 0) (call.FsndDtq d w))
  forces d w =
      tested-rests er.Id (numbered (length s.data_queues) d) _
      (λ i. refused_if-rests (nat_eq (data_queue_config sys i).capacity 0) er.Iluse _
      (forced_to-rests (first_waiting sys s (queue.Receivers i)) i w (λ t e. first_waiting-on sys s
      (queue.Receivers i) t e)))

  oldest_taken-rests : (o : Option ℕ) (d : ℕ) (w : ℤ) (ws : List ℤ)
      → ((t : ℕ) → o ≡ Some t → is_off (task_at s.tasks t) ≡ false)
      → Rest (oldest_taken o s d w ws)
  oldest_taken-rests None d w ws on = still
  oldest_taken-rests (Some t) d w ws on =
      rests-released s (unchanged (with_words s d (ws ++ offered_word (task_at s.tasks t).phase ∷ []))) t
      (task_at s.tasks t) (code er.Ok)
      still (on t refl)

  message_sent_to-rests : (o : Option ℕ) (mailbox message : ℕ)
      → ((t : ℕ) → o ≡ Some t → is_off (task_at s.tasks t) ≡ false)
      → Rest (message_sent_to o sys s mailbox message)
  message_sent_to-rests (Some t) mailbox message on = releases t (given (pos (message + 1))) (on t refl)
  message_sent_to-rests None mailbox message on = still

  locks : (l : Lock) (p : ℕ) → Rest (cpu_locked_from l s p)
  locks Free p = still
  locks Cpu p = still
  locks (Spin l) p = still

  unlocks : (l : Lock) (p : ℕ) → Rest (cpu_unlocked_from l s p)
  unlocks Free p = still
  unlocks Cpu p = still
  unlocks (Spin l) p = still

  spins : (b : Bool) (p l : ℕ) → Rest (spin_lock_taken b s p l)
  spins true p l = still
  spins false p l = still

  obtained-rests : (b : Bool) (f : ℕ) → Rest (obtained b s f)
  obtained-rests true f = still
  obtained-rests false f = still

  -- of a caller that is a task, and not off
  module _ (me : ℕ) (on : is_off (task_at s.tasks me) ≡ false) where
    abbrev x : TaskBlock
    x = task_at s.tasks me

    waits-rests : (c : WaitCause) (d : Option ℕ) → Rest (waits s me x c d)
    waits-rests c d = rests-waits s me _ on

    waits_within-rests : (m : TimeLimit) (c : WaitCause) → Rest (waits_within m s me x c)
    waits_within-rests limit.Forever c = waits-rests c None
    waits_within-rests limit.Poll c = still
    waits_within-rests (limit.Ticks n) c = waits-rests c (Some (clock_after s n))

    slept_by-rests : (n : ℕ) (m : TimeLimit) → Rest (slept_by n s me x m)
    slept_by-rests zero m = waits_within-rests m cause.Sleep
    slept_by-rests (suc n) m = rests-kept s me _ refl

    acquired_by-rests : (n : ℕ) (m : TimeLimit) (i : ℕ) → Rest (acquired_by n s me x m i)
    acquired_by-rests zero m i = waits_within-rests m (cause.Semaphore i)
    acquired_by-rests (suc n) m i = still

    awaited_by-rests : (b : Bool) (m : TimeLimit) (f pattern : ℕ) (mode : FlagMode)
        → Rest (awaited_by b sys s me x m f pattern mode)
    awaited_by-rests true m f pattern mode = obtained-rests (flag_config sys f).clears f
    awaited_by-rests false m f pattern mode = waits_within-rests m (cause.Flag f pattern mode)

    awaited-rests : (f pattern : ℕ) (mode : FlagMode) (m : TimeLimit) → Rest (awaited sys s me x f pattern mode m)
    awaited-rests f pattern mode m =
        refused_if-rests (not (flag_config sys f).multiple && not (is_empty (wait_queue sys s (queue.Flag f))))
        er.Iluse _
        (awaited_by-rests (satisfies mode pattern (pattern_at s f)) m f pattern mode)

    flag_tested-rests : (f b o : ℤ) (go : ℕ → ℕ → FlagMode → CallOutcome)
        → ((i bits : ℕ) (mode : FlagMode) → Rest (go i bits mode))
        → Rest (flag_tested s f b o go)
    flag_tested-rests f b o go k =
        tested-rests er.Id (numbered (length s.flags) f) _ (λ i. tested-rests er.Par (ranged 1 65535 b) _
        (λ bits. tested-rests er.Par (mode_of o) (go i bits) (λ mode. k i bits mode)))

    received_from-rests : (words : List ℤ) (m : TimeLimit) (d : ℕ) → Rest (word_received_from words sys s me x m d)
    received_from-rests [] m d =
        by_sender (first_waiting sys s (queue.Senders d)) (λ t e. first_waiting-on sys s (queue.Senders d) t e) where
          by_sender : (o : Option ℕ) → ((t : ℕ) → o ≡ Some t → is_off (task_at s.tasks t) ≡ false)
              → Rest (sender_taken_from o s me x m d)
          by_sender None k = waits_within-rests m (cause.Receiving d)
          by_sender (Some t) k = releases t (code er.Ok) (k t refl)
    received_from-rests (w ∷ ws) m d =
        oldest_taken-rests (first_waiting sys s (queue.Senders d)) d w ws
        (λ t e. first_waiting-on sys s (queue.Senders d) t e)

    taken_from-rests : (messages : List ℕ) (m : TimeLimit) (mailbox : ℕ)
        → Rest (message_taken_from messages s me x m mailbox)
    taken_from-rests [] m mailbox = waits_within-rests m (cause.Mailbox mailbox)
    taken_from-rests (message ∷ rest) m mailbox = still

    case_of-rests : (p : ℕ) (c : Call) → Rest (case_of sys s p me x c)
    case_of-rests p (call.Put value) = still
    case_of-rests p (call.LdShr word) = tested-rests er.Id (numbered (length s.shared_words) word) _ (λ n. still)
    case_of-rests p (call.StShr word value) = tested-rests er.Id (numbered (length s.shared_words) word) _ (λ n. still)
    case_of-rests p (call.ActTsk task) = on_task-rests (self_or s me task) _
        (λ t. activated_by-rests (task_at s.tasks t).phase t)
    case_of-rests p (call.CanAct task) = on_task-rests (self_or s me task) _ (λ t. rests-kept s t _ refl)
    case_of-rests p call.ExtTsk = rests-ended_itself sys s p me x
    case_of-rests p (call.TerTsk task) =
        on_task-rests (by_number s task) _ (λ t. refused_if-rests (nat_eq t me) er.Iluse _
        (refused_if-rests (is_dormant (task_at s.tasks t).phase || not (nat_eq (task_at s.tasks t).processor p))
        er.Obj _
        (rests-ended sys s (unchanged s) t (task_at s.tasks t) still)))
    case_of-rests p (call.ChgPri task priority) =
        on_task-rests (self_or s me task) _ (λ t. tested-rests er.Par (ranged 0 16 priority) _
        (λ n. refused_if-rests (is_dormant (task_at s.tasks t).phase) er.Obj _
        (moved_by-rests (goes_last sys (task_at s.tasks t)) t _ refl)))
    case_of-rests p (call.GetPri task) =
        on_task-rests (self_or s me task) _ (λ t. refused_if-rests (is_dormant (task_at s.tasks t).phase) er.Obj _
        still)
    case_of-rests p (call.MactTsk task processor) =
        on_task-rests (self_or s me task) _ (λ t. tested-rests er.Par (allowed_processor sys t processor) _
        (λ n. activated_on_by-rests (task_at s.tasks t).phase t n))
    case_of-rests p (call.MigTsk task processor) =
        on_task-rests (self_or s me task) _ (λ t. tested-rests er.Par (allowed_processor sys t processor) _
        (λ n. refused_if-rests (is_dormant (task_at s.tasks t).phase || not (nat_eq (task_at s.tasks t).processor p))
        er.Obj _
        (assigned_by-rests (nat_eq (task_at s.tasks t).processor n) t n)))
    case_of-rests p call.SlpTsk = slept_by-rests x.wakeups limit.Forever
    case_of-rests p (call.TslpTsk tmout) = tested-rests er.Par (limit_of tmout) _ (λ m. slept_by-rests x.wakeups m)
    case_of-rests p (call.WupTsk task) = on_task-rests (self_or s me task) _
        (λ t. woken_by-rests (task_at s.tasks t).phase t refl)
    case_of-rests p (call.CanWup task) =
        on_task-rests (self_or s me task) _ (λ t. refused_if-rests (is_dormant (task_at s.tasks t).phase) er.Obj _
        (rests-kept s t _ refl))
    case_of-rests p (call.RelWai task) = on_task-rests (by_number s task) _
        (λ t. released_by-rests (task_at s.tasks t).phase t refl)
    case_of-rests p (call.SusTsk task) =
        on_task-rests (self_or s me task) _ (λ t. refused_if-rests (is_dormant (task_at s.tasks t).phase) er.Obj _
        (refused_if-rests (task_at s.tasks t).suspended er.Qovr _ (rests-suspended
        (task_at s.tasks t).phase s t _ refl)))
    case_of-rests p (call.RsmTsk task) =
        on_task-rests (by_number s task) _ (λ t. refused_if-rests (not (task_at s.tasks t).suspended) er.Obj _
        (resumed_by-rests (task_at s.tasks t).phase t _ refl))
    case_of-rests p (call.DlyTsk delay) =
        tested-rests er.Par (ranged 0 (2 ^ 30) delay) _ (λ n. waits-rests cause.Delay (Some (clock_after s n)))
    case_of-rests p (call.SigSem semaphore) = sends semaphore
    case_of-rests p (call.WaiSem semaphore) =
        tested-rests er.Id (numbered (length s.semaphores) semaphore) _
        (λ n. acquired_by-rests (get_or s.semaphores n 0) limit.Forever n)
    case_of-rests p (call.PolSem semaphore) =
        tested-rests er.Id (numbered (length s.semaphores) semaphore) _
        (λ n. acquired_by-rests (get_or s.semaphores n 0) limit.Poll n)
    case_of-rests p (call.TwaiSem semaphore tmout) =
        tested-rests er.Id (numbered (length s.semaphores) semaphore) _ (λ n. tested-rests er.Par (limit_of tmout) _
        (λ m. acquired_by-rests (get_or s.semaphores n 0) m n))
    case_of-rests p (call.SetFlg flag pattern) = sets flag pattern
    case_of-rests p (call.ClrFlg flag pattern) =
        tested-rests er.Id (numbered (length s.flags) flag) _ (λ i. tested-rests er.Par (ranged 0 65535 pattern) _
        (λ bits. still))
    case_of-rests p (call.WaiFlg flag pattern mode) =
        flag_tested-rests flag pattern mode _ (λ i bits o. awaited-rests i bits o limit.Forever)
    case_of-rests p (call.PolFlg flag pattern mode) =
        flag_tested-rests flag pattern mode _ (λ i bits o. awaited-rests i bits o limit.Poll)
    case_of-rests p (call.TwaiFlg flag pattern mode tmout) =
        flag_tested-rests flag pattern mode _ (λ i bits o. tested-rests er.Par (limit_of tmout) _
        (λ m. awaited-rests i bits o m))
    case_of-rests p (call.SndDtq queue word) =
        tested-rests er.Id (numbered (length s.data_queues) queue) _
        (λ i. word_sent-rests me x limit.Forever i word (waits_within-rests limit.Forever (cause.Sending i word)))
    case_of-rests p (call.PsndDtq queue word) =
        tested-rests er.Id (numbered (length s.data_queues) queue) _ (λ i. word_sent-rests me x limit.Poll i word still)
    case_of-rests p (call.TsndDtq queue word tmout) =
        tested-rests er.Id (numbered (length s.data_queues) queue) _ (λ i. tested-rests er.Par (limit_of tmout) _
        (λ m. word_sent-rests me x m i word (waits_within-rests m (cause.Sending i word))))
    case_of-rests p (call.FsndDtq queue word) = forces queue word
    case_of-rests p (call.RcvDtq queue) =
        tested-rests er.Id (numbered (length s.data_queues) queue) _ (λ i. received_from-rests
        (words_at s i) limit.Forever i)
    case_of-rests p (call.PrcvDtq queue) =
        tested-rests er.Id (numbered (length s.data_queues) queue) _ (λ i. received_from-rests
        (words_at s i) limit.Poll i)
    case_of-rests p (call.TrcvDtq queue tmout) =
        tested-rests er.Id (numbered (length s.data_queues) queue) _ (λ i. tested-rests er.Par (limit_of tmout) _
        (λ m. received_from-rests (words_at s i) m i))
    case_of-rests p (call.SndMbx mailbox message) =
        tested-rests er.Id (numbered (length s.mailboxes) mailbox) _ (λ i. tested-rests er.Id
        (numbered (length sys.messages) message) _
        (λ g. refused_if-rests (is_by_priority (mailbox_config sys i).message_order
        && nat_lt (mailbox_config sys i).most
        (message_priority sys g)) er.Par _ (refused_if-rests (is_queued g s.mailboxes) er.Obj _
        (message_sent_to-rests (first_waiting sys s (queue.Mailbox i)) i g
        (λ t e. first_waiting-on sys s (queue.Mailbox i) t e)))))
    case_of-rests p (call.RcvMbx mailbox) =
        tested-rests er.Id (numbered (length s.mailboxes) mailbox) _ (λ i. taken_from-rests
        (messages_at s i) limit.Forever i)
    case_of-rests p (call.PrcvMbx mailbox) =
        tested-rests er.Id (numbered (length s.mailboxes) mailbox) _ (λ i. taken_from-rests
        (messages_at s i) limit.Poll i)
    case_of-rests p (call.TrcvMbx mailbox tmout) =
        tested-rests er.Id (numbered (length s.mailboxes) mailbox) _ (λ i. tested-rests er.Par (limit_of tmout) _
        (λ m. taken_from-rests (messages_at s i) m i))
    case_of-rests p (call.StaCyc cyclic) = tested-rests er.Id (numbered (length s.due_times) cyclic) _ (λ i. still)
    case_of-rests p (call.StpCyc cyclic) = tested-rests er.Id (numbered (length s.due_times) cyclic) _ (λ i. still)
    case_of-rests p (call.RotRdq priority) =
        tested-rests er.Par (ranged 0 16 priority) _ (λ n. rotated-rests (first_ready s p (or_if_zero x.priority n)))
    case_of-rests p call.GetTid = still
    case_of-rests p call.LocCpu = locks (processor_at s p).lock p
    case_of-rests p call.UnlCpu = unlocks (processor_at s p).lock p
    case_of-rests p call.DisDsp = still
    case_of-rests p call.EnaDsp = still
    case_of-rests p (call.LocSpn lock) = tested-rests er.Id (numbered (length sys.spin_locks) lock) _
        (λ i. spins (is_held i s.processors) p i)
    case_of-rests p (call.TrySpn lock) =
        tested-rests er.Id (numbered (length sys.spin_locks) lock) _ (λ i. refused_if-rests
        (is_held i s.processors) er.Obj _ still)
    case_of-rests p (call.UnlSpn lock) =
        tested-rests er.Id (numbered (length sys.spin_locks) lock) _
        (λ i. refused_if-rests (not (is_spin i (processor_at s p).lock)) er.Iluse _ still)
    case_of-rests p (call.IactTsk task) = on_task-rests (by_number s task) _
        (λ t. activated_by-rests (task_at s.tasks t).phase t)
    case_of-rests p (call.IwupTsk task) = on_task-rests (by_number s task) _
        (λ t. woken_by-rests (task_at s.tasks t).phase t refl)
    case_of-rests p (call.IrelWai task) = on_task-rests (by_number s task) _
        (λ t. released_by-rests (task_at s.tasks t).phase t refl)
    case_of-rests p (call.IsigSem semaphore) = sends semaphore
    case_of-rests p (call.IsetFlg flag pattern) = sets flag pattern
    case_of-rests p (call.IpsndDtq queue word) =
        tested-rests er.Id (numbered (length s.data_queues) queue) _ (λ i. word_sent-rests me x limit.Poll i word still)
    case_of-rests p (call.IfsndDtq queue word) = forces queue word
    case_of-rests p (call.IrotRdq priority) =
        tested-rests er.Par (ranged 1 16 priority) _ (λ n. rotated-rests (first_ready s p n))
    case_of-rests p (call.MrotRdq priority processor) =
        tested-rests er.Par (ranged 0 16 priority) _ (λ n. tested-rests er.Par (numbered sys.processors processor) _
        (λ q. rotated-rests (first_ready s q (or_if_zero x.priority n))))

  -- a handler calls what it may, or is refused
  handler-rests : (p : ℕ) (h : Handler) (c : Call) → Rest (called sys s p (caller.Handler h) c)
  handler-rests p h (call.Put value) = still
  handler-rests p h (call.LdShr word) = tested-rests er.Id (numbered (length s.shared_words) word) _ (λ n. still)
  handler-rests p h (call.StShr word value) = tested-rests er.Id (numbered (length s.shared_words) word) _ (λ n. still)
  handler-rests p h (call.IactTsk task) =
      refused_if-rests _ er.Ctx _ (on_task-rests (by_number s task) _ (λ t. activated_by-rests
      (task_at s.tasks t).phase t))
  handler-rests p h (call.IwupTsk task) =
      refused_if-rests _ er.Ctx _ (on_task-rests (by_number s task) _ (λ t. woken_by-rests
      (task_at s.tasks t).phase t refl))
  handler-rests p h (call.IrelWai task) =
      refused_if-rests _ er.Ctx _ (on_task-rests (by_number s task) _ (λ t. released_by-rests
      (task_at s.tasks t).phase t refl))
  handler-rests p h (call.IsigSem semaphore) = refused_if-rests _ er.Ctx _ (sends semaphore)
  handler-rests p h (call.IsetFlg flag pattern) = refused_if-rests _ er.Ctx _ (sets flag pattern)
  handler-rests p h (call.IpsndDtq queue word) =
      refused_if-rests _ er.Ctx _ (tested-rests er.Id (numbered (length s.data_queues) queue) _
      (λ i. word_sent-rests 0 (task_at [] 0) limit.Poll i word still))
  handler-rests p h (call.IfsndDtq queue word) = refused_if-rests _ er.Ctx _ (forces queue word)
  handler-rests p h (call.IrotRdq priority) =
      refused_if-rests _ er.Ctx _ (tested-rests er.Par (ranged 1 16 priority) _
      (λ n. rotated-rests (first_ready s p n)))
  handler-rests p h c = still

  pub called-rests : (p : ℕ) (who : Caller) (c : Call) → IsCaller s who → Rest (called sys s p who c)
  called-rests p (caller.Task me) c on =
      refused_if-rests (is_barred (permission (service_of c)) (processor_at s p) (caller.Task me) c) er.Ctx _
      (case_of-rests me on p c)
  called-rests p (caller.Handler h) c on = handler-rests p h c
