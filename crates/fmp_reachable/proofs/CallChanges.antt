-- Every service call is made of changes, and a call that waits makes its caller wait.
use Rattle.std.proofs.Common.{◌≡◌, ◌+◌, ◌^◌, ◌<◌, ℕ, zero, suc, ℤ, pos, List, [], ◌∷◌, ◌++◌, Option, Some, None, Bool}
use Rattle.std.proofs.Common.{true, false, ◌&&◌, ◌||◌, not, refl, sym, ◌∙◌, ap, arith, nat_eq, nat_lt, length, get_or}
use Rattle.std.proofs.Common.{bit_and, bit_or, if◌then◌else◌}
use Rattle.fmp_base.specs.declared.calls.Answer.{Answer}
use Rattle.fmp_base.specs.declared.calls.Answer.TheVariants.{Replies, Waits, Ends, Spins}
use Rattle.fmp_base.specs.declared.calls.Call.{Call}
use Rattle.fmp_base.specs.declared.calls.Call.TheVariants as call
use Rattle.fmp_base.specs.declared.calls.Reply.{Reply}
use Rattle.fmp_base.specs.declared.codes.Er.{Er}
use Rattle.fmp_base.specs.declared.codes.Er.TheVariants as er
use Rattle.fmp_base.specs.declared.states.Caller.TheVariants as caller
use Rattle.fmp_base.specs.declared.states.FlagMode.{FlagMode}
use Rattle.fmp_base.specs.declared.states.Handler.{Handler}
use Rattle.fmp_base.specs.declared.states.Lock.{Lock}
use Rattle.fmp_base.specs.declared.states.Lock.TheVariants.{Free, Cpu as Locked, Spin}
use Rattle.fmp_base.specs.declared.states.Phase.{Phase}
use Rattle.fmp_base.specs.declared.states.Phase.TheVariants.{Dormant, Ready, Waiting}
use Rattle.fmp_base.specs.declared.states.TaskBlock.{TaskBlock}
use Rattle.fmp_base.specs.declared.states.TimeLimit.{TimeLimit}
use Rattle.fmp_base.specs.declared.states.TimeLimit.TheVariants as limit
use Rattle.fmp_base.specs.declared.states.WaitCause.{WaitCause}
use Rattle.fmp_base.specs.declared.states.WaitCause.TheVariants as cause
use Rattle.fmp_base.specs.declared.states.WaitQueue.TheVariants as queue
use Rattle.fmp_base.specs.Calls.{case_of, called}
use Rattle.fmp_base.specs.Changes.{ended_itself, released, suspended_by, with_nothing_run}
use Rattle.fmp_base.specs.DataQueueCalls.{words_at, with_words, without_oldest, has_room, queued_by, word_sent_to}
use Rattle.fmp_base.specs.DataQueueCalls.{word_sent, forced_in, forced_to, offered_word, oldest_taken}
use Rattle.fmp_base.specs.DataQueueCalls.{sender_taken_from, word_received_from}
use Rattle.fmp_base.specs.FlagCalls.{pattern_at, satisfies, obtained, awaited_by, is_empty, mode_of, flag_tested}
use Rattle.fmp_base.specs.FlagCalls.{awaited}
use Rattle.fmp_base.specs.MailboxCalls.{enqueued, messages_at, message_priority, is_queued, message_sent_to}
use Rattle.fmp_base.specs.MailboxCalls.{message_taken_from}
use Rattle.fmp_base.specs.Outcomes.{CallOutcome, code, given, refused, waits_within, limit_of, numbered, ranged, tested}
use Rattle.fmp_base.specs.Outcomes.{refused_if, on_task}
use Rattle.fmp_base.specs.Permissions.{permission, is_barred}
use Rattle.fmp_base.specs.ProcessorCalls.{cpu_locked_from, cpu_unlocked_from, is_held, is_spin, spin_lock_taken}
use Rattle.fmp_base.specs.Queues.{first_ready, first_waiting, is_by_priority, is_ready, wait_queue}
use Rattle.fmp_base.specs.SemaphoreCalls.{signalled_to, acquired_by}
use Rattle.fmp_base.specs.Services.{service_of}
use Rattle.fmp_base.specs.States.{KernelState, Progress, unchanged, clock_after, processor_at, task_at, with_last}
use Rattle.fmp_base.specs.States.{with_task}
use Rattle.fmp_base.specs.Systems.{SystemTables, cyclic_config, data_queue_config, flag_config, mailbox_config}
use Rattle.fmp_base.specs.Systems.{semaphore_config}
use Rattle.fmp_base.specs.TaskCalls.{is_dormant, self_or, by_number, activated_by, goes_last, moved_by, or_if_zero}
use Rattle.fmp_base.specs.TaskCalls.{allowed_processor, activated_on_by, assigned_by, slept_by, wakeup_queued}
use Rattle.fmp_base.specs.TaskCalls.{woken_from, woken_by, released_by, resumed_by, rotated}
use Rattle.fmp_ring.specs.LinkedLaws.{is_linked-queued}
use Rattle.fmp_tasks.specs.Homes.{is_in_order, is_waiting}
use Rattle.fmp_reachable.specs.Numbers.{IsAhead}
use Rattle.fmp_reachable.specs.Sizes.{AreWithinCapacity}
use Rattle.fmp_reachable.proofs.Apart.{apart-at, new-enqueued, new-rest, order-enqueued, order-rest}
use Rattle.fmp_reachable.proofs.Apart.{unlinked-at}
use Rattle.fmp_reachable.proofs.Capacities.{room-for, room-forced, room-refilled, room-taken}
use Rattle.fmp_reachable.proofs.Changes.{Change, Count, Cpu, Due, InPlace, IsFair}
use Rattle.fmp_reachable.proofs.Changes.{Messages, Moves, Out, Pattern, ToEnd, Word, Words, changed}
use Rattle.fmp_reachable.proofs.Stands.{first-ready, first-true, first-waits, goes_last-stands, named-there}
use Rattle.fmp_reachable.proofs.Stands.{numbered-there, off, ready-joins, ready-leaves, ready-on, there, waits-on}
use Rattle.fmp_reachable.proofs.Stands.{waits-stands}
use Rattle.fmp_reachable.proofs.TaskChanges.{ended-comes, released-comes, started-comes, walk-comes}
use Rattle.fmp_reachable.specs.Sound.{IsFine, IsFineBlock, AreFine, AreApart}

-- a call that waits leaves what W says, and P holds where any other leads
abbrev pub ComesBy : (P W : Progress → Type 0) → Answer → Progress → Type 0
ComesBy P W (Replies reply) g = P g
ComesBy P W Waits g = W g
ComesBy P W Ends g = P g
ComesBy P W Spins g = P g

module _ (sys : SystemTables) (P : Progress → Type 0)
    (go : (g : Progress) (c : Change) → P g → IsFair sys g.state c → P (changed c g)) where
  module _ (s : KernelState) (h : P (unchanged s)) (b : AreFine (s.clock + 1) s.tasks s.order)
      (a : AreApart (length sys.messages) s.mailboxes) (r : AreWithinCapacity sys s.data_queues)
      (W : Progress → Type 0) where
    abbrev Comes : CallOutcome → Type 0
    Comes o = ComesBy P W o.answer o.progress

    step : (c : Change) → IsFair sys s c → P (changed c (unchanged s))
    step c k = go (unchanged s) c h k

    tested-comes : {A : Type 0} (e : Er) (o : Option A) (f : A → CallOutcome) → ((i : A) → o ≡ Some i → Comes (f i))
        → Comes (tested s e o f)
    tested-comes e None f k = h
    tested-comes e (Some i) f k = k i refl

    refused_if-comes : (c : Bool) (e : Er) (o : CallOutcome) → (c ≡ false → Comes o) → Comes (refused_if c s e o)
    refused_if-comes true e o k = h
    refused_if-comes false e o k = k refl

    on_task-comes : (o : Option ℕ) (f : ℕ → TaskBlock → CallOutcome)
        → ((t : ℕ) → o ≡ Some t → Comes (f t (task_at s.tasks t))) → Comes (on_task s o f)
    on_task-comes None f k = h
    on_task-comes (Some t) f k = k t refl

    either-comes : (c : Bool) (o p : CallOutcome) → Comes o → Comes p → Comes (if c then o else p)
    either-comes true o p k l = k
    either-comes false o p k l = l

    frees : (t : ℕ) (reply : Reply) → is_waiting (task_at s.tasks t).phase ≡ true
        → P (released (unchanged s) t (task_at s.tasks t) reply)
    frees t reply w =
        released-comes sys P go (unchanged s) t (task_at s.tasks t) reply h
        (there s.tasks t (waits-on (task_at s.tasks t).phase w))

    -- a task changes and stands where it stood
    keeps : (t : ℕ) (y : TaskBlock) → t < length s.tasks → IsFineBlock (s.clock + 1) y
        → is_in_order y ≡ is_in_order (task_at s.tasks t)
        → (is_waiting y.phase ≡ true → is_waiting (task_at s.tasks t).phase ≡ true) → P (unchanged (with_task s t y))
    keeps t y l f o w = step (Moves InPlace t y) (record { there = l; fine = f; placed = o; waits = w })

    -- or goes to the end
    lasts : (t : ℕ) (y : TaskBlock) → t < length s.tasks → IsFineBlock (s.clock + 1) y → is_in_order y ≡ true
        → (is_waiting y.phase ≡ true → is_waiting (task_at s.tasks t).phase ≡ true) → P (unchanged (with_last s t y))
    lasts t y l f o w = step (Moves ToEnd t y) (record { there = l; fine = f; placed = o; waits = w })

    alike : (t : ℕ)
        → IsFine (s.clock + 1) (task_at s.tasks t).phase (task_at s.tasks t).suspended (task_at s.tasks t).deadline
    alike t = b.each t

    activated_by-comes : (p : Phase) (t : ℕ) → t < length s.tasks → Comes (activated_by p sys s t (task_at s.tasks t))
    activated_by-comes Dormant t l = started-comes sys P go (unchanged s) t (task_at s.tasks t) h l
    activated_by-comes Ready t l =
        either-comes (nat_lt (task_at s.tasks t).activations sys.queue_limit) _ (refused s er.Qovr)
        (keeps t _ l (alike t) refl (λ e. e)) h
    activated_by-comes (Waiting c) t l =
        either-comes (nat_lt (task_at s.tasks t).activations sys.queue_limit) _ (refused s er.Qovr)
        (keeps t _ l (alike t) refl (λ e. e)) h

    moved_by-comes : (c : Bool) (t : ℕ) (y : TaskBlock) → t < length s.tasks → IsFineBlock (s.clock + 1) y
        → is_in_order y ≡ is_in_order (task_at s.tasks t)
        → (is_waiting y.phase ≡ true → is_waiting (task_at s.tasks t).phase ≡ true)
        → (c ≡ true → is_in_order (task_at s.tasks t) ≡ true) → P (unchanged (moved_by c s t y))
    moved_by-comes true t y l f o w k = lasts t y l f (o ∙ k refl) w
    moved_by-comes false t y l f o w k = keeps t y l f o w

    activated_on_by-comes : (p : Phase) (t c : ℕ) → t < length s.tasks
        → Comes (activated_on_by p sys s t (task_at s.tasks t) c)
    activated_on_by-comes Dormant t c l =
        started-comes sys P go (unchanged s) t (record (task_at s.tasks t) { processor = c }) h l
    activated_on_by-comes Ready t c l =
        either-comes (nat_lt (task_at s.tasks t).activations sys.queue_limit) _ (refused s er.Qovr)
        (keeps t _ l (alike t) refl (λ e. e)) h
    activated_on_by-comes (Waiting w) t c l =
        either-comes (nat_lt (task_at s.tasks t).activations sys.queue_limit) _ (refused s er.Qovr)
        (keeps t _ l (alike t) refl (λ e. e)) h

    assigned_by-comes : (c : Bool) (t q : ℕ) → t < length s.tasks
        → P (unchanged (assigned_by c s t (task_at s.tasks t) q))
    assigned_by-comes true t q l = h
    assigned_by-comes false t q l =
        moved_by-comes (is_ready (task_at s.tasks t)) t (record (task_at s.tasks t) { processor = q }) l
        (alike t) refl (λ e. e)
        (λ e. first-true (is_ready (task_at s.tasks t)) (is_waiting (task_at s.tasks t).phase) e)

    wakeup_queued-comes : (t : ℕ) → t < length s.tasks → Comes (wakeup_queued sys s t (task_at s.tasks t))
    wakeup_queued-comes t l =
        either-comes (nat_lt (task_at s.tasks t).wakeups sys.queue_limit) _ (refused s er.Qovr)
        (keeps t _ l (alike t) refl (λ e. e)) h

    woken_from-comes : (c : WaitCause) (t : ℕ) → t < length s.tasks → is_waiting (task_at s.tasks t).phase ≡ true
        → Comes (woken_from c sys s t (task_at s.tasks t))
    woken_from-comes cause.Sleep t l w = frees t (code er.Ok) w
    woken_from-comes c t l w = wakeup_queued-comes t l

    woken_by-comes : (p : Phase) (t : ℕ) → t < length s.tasks → (task_at s.tasks t).phase ≡ p
        → Comes (woken_by p sys s t (task_at s.tasks t))
    woken_by-comes Dormant t l e = h
    woken_by-comes Ready t l e = wakeup_queued-comes t l
    woken_by-comes (Waiting c) t l e = woken_from-comes c t l (ap is_waiting e)

    released_by-comes : (p : Phase) (t : ℕ) → (task_at s.tasks t).phase ≡ p
        → Comes (released_by p s t (task_at s.tasks t))
    released_by-comes Dormant t e = h
    released_by-comes Ready t e = h
    released_by-comes (Waiting c) t e = frees t (code er.Rlwai) (ap is_waiting e)

    suspended_by-comes : (p : Phase) (t : ℕ) → t < length s.tasks → (task_at s.tasks t).phase ≡ p
        → is_dormant (task_at s.tasks t).phase ≡ false
        → P (unchanged (suspended_by p s t (record (task_at s.tasks t) { suspended = true })))
    suspended_by-comes p t l e on = by_phase p e where
      x : TaskBlock
      x = task_at s.tasks t

      fine : IsFine (s.clock + 1) x.phase true x.deadline
      fine = let f = b.each t in record { rest = f.rest; calm = λ d. off (sym on ∙ d); ahead = f.ahead }

      by_phase : (p : Phase) → x.phase ≡ p → P (unchanged (suspended_by p s t (record x { suspended = true })))
      by_phase Dormant e = off (sym on ∙ ap is_dormant e)
      by_phase Ready e =
          step (Moves Out t (record x { suspended = true })) (record {
            there = l;
            fine = fine;
            placed = ready-leaves x.phase e;
            waits = λ w. w;
          })
      by_phase (Waiting c) e =
          keeps t (record x { suspended = true }) l fine (waits-stands x.phase false (not x.suspended) c e) (λ w. w)

    resumed_by-comes : (p : Phase) (t : ℕ) → t < length s.tasks → (task_at s.tasks t).phase ≡ p
        → not (task_at s.tasks t).suspended ≡ false
        → P (unchanged (resumed_by p s t (record (task_at s.tasks t) { suspended = false })))
    resumed_by-comes p t l e held = by_phase p e where
      x : TaskBlock
      x = task_at s.tasks t

      fine : IsFine (s.clock + 1) x.phase false x.deadline
      fine = let f = b.each t in record { rest = f.rest; calm = λ d. refl; ahead = f.ahead }

      by_phase : (p : Phase) → x.phase ≡ p → P (unchanged (resumed_by p s t (record x { suspended = false })))
      by_phase Dormant e = let f = b.each t in off (sym held ∙ ap not (f.calm (ap is_dormant e)))
      by_phase Ready e = lasts t (record x { suspended = false }) l fine (ready-joins x.phase e) (λ w. w)
      by_phase (Waiting c) e =
          keeps t (record x { suspended = false }) l fine (waits-stands x.phase true (not x.suspended) c e) (λ w. w)

    rotated-comes : (o : Option ℕ) → ((t : ℕ) → o ≡ Some t → is_ready (task_at s.tasks t) ≡ true)
        → P (unchanged (rotated s o))
    rotated-comes None k = h
    rotated-comes (Some t) k =
        let x = task_at s.tasks t in
        lasts t x (there s.tasks t (ready-on x.phase (not x.suspended) (k t refl))) (alike t)
        (first-true (is_ready x) (is_waiting x.phase) (k t refl)) (λ e. e)

    rotates : (p priority : ℕ) → P (unchanged (rotated s (first_ready s p priority)))
    rotates p priority = rotated-comes (first_ready s p priority) (λ t e. first-ready s p priority t e)

    signalled_to-comes : (o : Option ℕ) (i n : ℕ) → ((t : ℕ) → o ≡ Some t → is_waiting (task_at s.tasks t).phase ≡ true)
        → Comes (signalled_to o sys s i n)
    signalled_to-comes None i n k =
        either-comes (nat_lt n (semaphore_config sys i).most) _ (refused s er.Qovr) (step (Count i (n + 1)) tt) h
    signalled_to-comes (Some t) i n k = frees t (code er.Ok) (k t refl)

    sends : (i : ℤ) → Comes (case_of sys s 0 0 (task_at [] 0) (call.SigSem i))
    sends i =
        tested-comes er.Id (numbered (length s.semaphores) i) _
        (λ n e. signalled_to-comes (first_waiting sys s (queue.Semaphore n)) n (get_or s.semaphores n 0)
        (λ t k. first-waits sys s (queue.Semaphore n) t k))

    sets : (f bits : ℤ) → Comes (case_of sys s 0 0 (task_at [] 0) (call.SetFlg f bits))
    sets f bits =
        tested-comes er.Id (numbered (length s.flags) f) _ (λ i e. tested-comes er.Par (ranged 0 65535 bits) _
        (λ n k. walk-comes sys P go (flag_config sys i).clears i _ (wait_queue sys s (queue.Flag i)) _
        (step (Pattern i (bit_or (pattern_at s i) n)) tt)))

    word_sent_to-comes : (o : Option ℕ) (me : ℕ) (x : TaskBlock) (m : TimeLimit) (d : ℕ) (w : ℤ)
        → ((t : ℕ) → o ≡ Some t → is_waiting (task_at s.tasks t).phase ≡ true)
        → Comes (waits_within m s me x (cause.Sending d w))
        → Comes (word_sent_to o sys s me x m d w)
    word_sent_to-comes (Some t) me x m d w on k = frees t (given w) (on t refl)
    word_sent_to-comes None me x m d w on k = by_room (has_room sys s d) refl where
      by_room : (b : Bool) → has_room sys s d ≡ b → Comes (queued_by b s me x m d w)
      by_room true e = step (Words d (words_at s d ++ w ∷ [])) (room-for sys s d w e)
      by_room false e = k

    word_sent-comes : (me : ℕ) (x : TaskBlock) (m : TimeLimit) (d : ℕ) (w : ℤ)
        → Comes (waits_within m s me x (cause.Sending d w))
        → Comes (word_sent sys s me x w m d)
    word_sent-comes me x m d w k =
        word_sent_to-comes (first_waiting sys s (queue.Receivers d)) me x m d w
        (λ t e. first-waits sys s (queue.Receivers d) t e) k

    forced_to-comes : (o : Option ℕ) (d : ℕ) (w : ℤ) → nat_eq (data_queue_config sys d).capacity 0 ≡ false
        → ((t : ℕ) → o ≡ Some t → is_waiting (task_at s.tasks t).phase ≡ true)
        → Comes (forced_to o sys s d w)
    forced_to-comes (Some t) d w some on = frees t (given w) (on t refl)
    forced_to-comes None d w some on = by_room (has_room sys s d) refl where
      by_room : (b : Bool) → has_room sys s d ≡ b → Comes (forced_in b s d w)
      by_room true e = step (Words d (words_at s d ++ w ∷ [])) (room-for sys s d w e)
      by_room false e =
          step (Words d (without_oldest (words_at s d) ++ w ∷ []))
          (room-forced (words_at s d) w (data_queue_config sys d).capacity some (r d))

    forces : (d w : ℤ) → Comes (case_of sys s 0 0 (task_at [] 0) (call.FsndDtq d w))
    forces d w =
        tested-comes er.Id (numbered (length s.data_queues) d) _
        (λ i e. refused_if-comes (nat_eq (data_queue_config sys i).capacity 0) er.Iluse _
        (λ k. forced_to-comes (first_waiting sys s (queue.Receivers i)) i w k
        (λ t f. first-waits sys s (queue.Receivers i) t f)))

    oldest_taken-comes : (o : Option ℕ) (d : ℕ) (w : ℤ) (ws : List ℤ) → words_at s d ≡ w ∷ ws
        → ((t : ℕ) → o ≡ Some t → is_waiting (task_at s.tasks t).phase ≡ true)
        → Comes (oldest_taken o s d w ws)
    oldest_taken-comes None d w ws e on = step (Words d ws) (room-taken (words_at s d) w ws _ e (r d))
    oldest_taken-comes (Some t) d w ws e on =
        let more = ws ++ offered_word (task_at s.tasks t).phase ∷ [] in
        released-comes sys P go (unchanged (with_words s d more)) t (task_at s.tasks t) (code er.Ok)
        (step (Words d more) (room-refilled (words_at s d) w (offered_word (task_at s.tasks t).phase) ws _ e (r d)))
        (there s.tasks t (waits-on (task_at s.tasks t).phase (on t refl)))

    message_sent_to-comes : (o : Option ℕ) (mailbox message : ℕ)
        → ((t : ℕ) → o ≡ Some t → is_waiting (task_at s.tasks t).phase ≡ true)
        → message < length sys.messages → is_queued message s.mailboxes ≡ false
        → Comes (message_sent_to o sys s mailbox message)
    message_sent_to-comes (Some t) mailbox message on l n = frees t (given (pos (message + 1))) (on t refl)
    message_sent_to-comes None mailbox message on l n =
        let out = is_linked-queued message s.mailboxes ∙ n in
        let o = (mailbox_config sys mailbox).message_order in
        step (Messages mailbox (enqueued o (message_priority sys) message (messages_at s mailbox))) (
          order-enqueued (length sys.messages) o (message_priority sys) message (messages_at s mailbox)
              (apart-at (length sys.messages) s.mailboxes mailbox a) (unlinked-at message s.mailboxes mailbox out) l,
          new-enqueued o (message_priority sys) message s.mailboxes mailbox out,
        )

    locks : (l : Lock) (p : ℕ) → Comes (cpu_locked_from l s p)
    locks Free p = step (Cpu p _) tt
    locks Locked p = h
    locks (Spin l) p = h

    unlocks : (l : Lock) (p : ℕ) → Comes (cpu_unlocked_from l s p)
    unlocks Free p = h
    unlocks Locked p = step (Cpu p _) tt
    unlocks (Spin l) p = h

    spins : (c : Bool) (p l : ℕ) → Comes (spin_lock_taken c s p l)
    spins true p l = h
    spins false p l = step (Cpu p _) tt

    obtained-comes : (c : Bool) (f : ℕ) → Comes (obtained c s f)
    obtained-comes true f = step (Pattern f 0) tt
    obtained-comes false f = h

    activates : (o : Option ℕ) → ((t : ℕ) → o ≡ Some t → t < length s.tasks)
        → Comes (on_task s o (λ t x. activated_by x.phase sys s t x))
    activates o l = on_task-comes o _ (λ t e. activated_by-comes (task_at s.tasks t).phase t (l t e))

    wakes : (o : Option ℕ) → ((t : ℕ) → o ≡ Some t → t < length s.tasks)
        → Comes (on_task s o (λ t x. woken_by x.phase sys s t x))
    wakes o l = on_task-comes o _ (λ t e. woken_by-comes (task_at s.tasks t).phase t (l t e) refl)

    number : (z : ℤ) (t : ℕ) → by_number s z ≡ Some t → t < length s.tasks
    number z t e = numbered-there (length s.tasks) z t e

    -- of a caller that is a task
    module _ (me : ℕ) (l : me < length s.tasks)
        (wait : (c : WaitCause) (d : Option ℕ) → IsAhead (s.clock + 1) d
        → W (unchanged (with_last s me (record (task_at s.tasks me) { phase = Waiting c; deadline = d })))) where
      abbrev x : TaskBlock
      x = task_at s.tasks me

      name : (z : ℤ) (t : ℕ) → self_or s me z ≡ Some t → t < length s.tasks
      name z t e = named-there me (length s.tasks) z t l e

      after : (n : ℕ) → IsAhead (s.clock + 1) (Some (clock_after s n))
      after n = omega arith

      waits_within-comes : (m : TimeLimit) (c : WaitCause) → Comes (waits_within m s me x c)
      waits_within-comes limit.Forever c = wait c None tt
      waits_within-comes limit.Poll c = h
      waits_within-comes (limit.Ticks n) c = wait c (Some (clock_after s n)) (after n)

      slept_by-comes : (n : ℕ) (m : TimeLimit) → Comes (slept_by n s me x m)
      slept_by-comes zero m = waits_within-comes m cause.Sleep
      slept_by-comes (suc n) m = keeps me _ l (alike me) refl (λ e. e)

      acquired_by-comes : (n : ℕ) (m : TimeLimit) (i : ℕ) → Comes (acquired_by n s me x m i)
      acquired_by-comes zero m i = waits_within-comes m (cause.Semaphore i)
      acquired_by-comes (suc n) m i = step (Count i n) tt

      acquires : (n : ℕ) (m : TimeLimit) → Comes (acquired_by (get_or s.semaphores n 0) s me x m n)
      acquires n m = acquired_by-comes (get_or s.semaphores n 0) m n

      awaited_by-comes : (c : Bool) (m : TimeLimit) (f pattern : ℕ) (mode : FlagMode)
          → Comes (awaited_by c sys s me x m f pattern mode)
      awaited_by-comes true m f pattern mode = obtained-comes (flag_config sys f).clears f
      awaited_by-comes false m f pattern mode = waits_within-comes m (cause.Flag f pattern mode)

      awaited-comes : (f pattern : ℕ) (mode : FlagMode) (m : TimeLimit) → Comes (awaited sys s me x f pattern mode m)
      awaited-comes f pattern mode m =
          refused_if-comes (not (flag_config sys f).multiple && not (is_empty (wait_queue sys s (queue.Flag f))))
          er.Iluse _
          (λ k. awaited_by-comes (satisfies mode pattern (pattern_at s f)) m f pattern mode)

      flag_tested-comes : (f bits o : ℤ) (next : ℕ → ℕ → FlagMode → CallOutcome)
          → ((i n : ℕ) (mode : FlagMode) → Comes (next i n mode))
          → Comes (flag_tested s f bits o next)
      flag_tested-comes f bits o next k =
          tested-comes er.Id (numbered (length s.flags) f) _ (λ i e. tested-comes er.Par (ranged 1 65535 bits) _
          (λ n g. tested-comes er.Par (mode_of o) (next i n) (λ mode j. k i n mode)))

      received_from-comes : (words : List ℤ) (m : TimeLimit) (d : ℕ) → words_at s d ≡ words
          → Comes (word_received_from words sys s me x m d)
      received_from-comes [] m d e =
          by_sender (first_waiting sys s (queue.Senders d)) (λ t e. first-waits sys s (queue.Senders d) t e) where
            by_sender : (o : Option ℕ) → ((t : ℕ) → o ≡ Some t → is_waiting (task_at s.tasks t).phase ≡ true)
                → Comes (sender_taken_from o s me x m d)
            by_sender None k = waits_within-comes m (cause.Receiving d)
            by_sender (Some t) k = frees t (code er.Ok) (k t refl)
      received_from-comes (w ∷ ws) m d e =
          oldest_taken-comes (first_waiting sys s (queue.Senders d)) d w ws e
          (λ t f. first-waits sys s (queue.Senders d) t f)

      receives : (d : ℤ) (m : TimeLimit)
          → Comes (tested s er.Id (numbered (length s.data_queues) d) (λ i. word_received_from
          (words_at s i) sys s me x m i))
      receives d m =
          tested-comes er.Id (numbered (length s.data_queues) d) _ (λ i e. received_from-comes (words_at s i) m i refl)

      taken_from-comes : (messages : List ℕ) (m : TimeLimit) (mailbox : ℕ) → messages_at s mailbox ≡ messages
          → Comes (message_taken_from messages s me x m mailbox)
      taken_from-comes [] m mailbox e = waits_within-comes m (cause.Mailbox mailbox)
      taken_from-comes (message ∷ rest) m mailbox e =
          step (Messages mailbox rest) (
            order-rest (length sys.messages) message (messages_at s mailbox) rest e
                (apart-at (length sys.messages) s.mailboxes mailbox a),
            new-rest s.mailboxes mailbox message rest e,
          )

      takes : (mailbox : ℕ) (m : TimeLimit) → Comes (message_taken_from (messages_at s mailbox) s me x m mailbox)
      takes mailbox m = taken_from-comes (messages_at s mailbox) m mailbox refl

      ended_itself-comes : (p : ℕ) → P (ended_itself sys s p me x)
      ended_itself-comes p = ended-comes sys P go (unchanged (with_nothing_run s p)) me x (step (Cpu p _) tt) l

      case_of-comes : (p : ℕ) (c : Call) → Comes (case_of sys s p me x c)
      case_of-comes p (call.Put value) = h
      case_of-comes p (call.LdShr word) = tested-comes er.Id (numbered (length s.shared_words) word) _ (λ n e. h)
      case_of-comes p (call.StShr word value) =
          tested-comes er.Id (numbered (length s.shared_words) word) _ (λ n e. step (Word n value) tt)
      case_of-comes p (call.ActTsk task) = activates (self_or s me task) (name task)
      case_of-comes p (call.CanAct task) =
          on_task-comes (self_or s me task) _ (λ t e. keeps t _ (name task t e) (alike t) refl (λ w. w))
      case_of-comes p call.ExtTsk = ended_itself-comes p
      case_of-comes p (call.TerTsk task) =
          on_task-comes (by_number s task) _ (λ t e. refused_if-comes (nat_eq t me) er.Iluse _
          (λ f. refused_if-comes (is_dormant (task_at s.tasks t).phase
          || not (nat_eq (task_at s.tasks t).processor p)) er.Obj _
          (λ g. ended-comes sys P go (unchanged s) t (task_at s.tasks t) h (number task t e))))
      case_of-comes p (call.ChgPri task priority) =
          on_task-comes (self_or s me task) _ (λ t e. tested-comes er.Par (ranged 0 16 priority) _
          (λ n f. refused_if-comes (is_dormant (task_at s.tasks t).phase) er.Obj _
          (λ g. moved_by-comes (goes_last sys (task_at s.tasks t)) t _ (name task t e) (alike t) refl (λ w. w)
          (λ k. goes_last-stands sys (task_at s.tasks t) k))))
      case_of-comes p (call.GetPri task) =
          on_task-comes (self_or s me task) _ (λ t e. refused_if-comes (is_dormant (task_at s.tasks t).phase) er.Obj _
          (λ f. h))
      case_of-comes p (call.MactTsk task processor) =
          on_task-comes (self_or s me task) _ (λ t e. tested-comes er.Par (allowed_processor sys t processor) _
          (λ n f. activated_on_by-comes (task_at s.tasks t).phase t n (name task t e)))
      case_of-comes p (call.MigTsk task processor) =
          on_task-comes (self_or s me task) _ (λ t e. tested-comes er.Par (allowed_processor sys t processor) _
          (λ n f. refused_if-comes (is_dormant (task_at s.tasks t).phase
          || not (nat_eq (task_at s.tasks t).processor p)) er.Obj _
          (λ g. assigned_by-comes (nat_eq (task_at s.tasks t).processor n) t n (name task t e))))
      case_of-comes p call.SlpTsk = slept_by-comes x.wakeups limit.Forever
      case_of-comes p (call.TslpTsk tmout) = tested-comes er.Par (limit_of tmout) _ (λ m e. slept_by-comes x.wakeups m)
      case_of-comes p (call.WupTsk task) = wakes (self_or s me task) (name task)
      case_of-comes p (call.CanWup task) =
          on_task-comes (self_or s me task) _ (λ t e. refused_if-comes (is_dormant (task_at s.tasks t).phase) er.Obj _
          (λ f. keeps t _ (name task t e) (alike t) refl (λ w. w)))
      case_of-comes p (call.RelWai task) =
          on_task-comes (by_number s task) _ (λ t e. released_by-comes (task_at s.tasks t).phase t refl)
      case_of-comes p (call.SusTsk task) =
          on_task-comes (self_or s me task) _ (λ t e. refused_if-comes (is_dormant (task_at s.tasks t).phase) er.Obj _
          (λ on. refused_if-comes (task_at s.tasks t).suspended er.Qovr _
          (λ f. suspended_by-comes (task_at s.tasks t).phase t (name task t e) refl on)))
      case_of-comes p (call.RsmTsk task) =
          on_task-comes (by_number s task) _ (λ t e. refused_if-comes (not (task_at s.tasks t).suspended) er.Obj _
          (λ held. resumed_by-comes (task_at s.tasks t).phase t (number task t e) refl held))
      case_of-comes p (call.DlyTsk delay) =
          tested-comes er.Par (ranged 0 (2 ^ 30) delay) _ (λ n e. wait cause.Delay (Some (clock_after s n)) (after n))
      case_of-comes p (call.SigSem semaphore) = sends semaphore
      case_of-comes p (call.WaiSem semaphore) =
          tested-comes er.Id (numbered (length s.semaphores) semaphore) _ (λ n e. acquires n limit.Forever)
      case_of-comes p (call.PolSem semaphore) =
          tested-comes er.Id (numbered (length s.semaphores) semaphore) _ (λ n e. acquires n limit.Poll)
      case_of-comes p (call.TwaiSem semaphore tmout) =
          tested-comes er.Id (numbered (length s.semaphores) semaphore) _
          (λ n e. tested-comes er.Par (limit_of tmout) _ (λ m f. acquires n m))
      case_of-comes p (call.SetFlg flag pattern) = sets flag pattern
      case_of-comes p (call.ClrFlg flag pattern) =
          tested-comes er.Id (numbered (length s.flags) flag) _ (λ i e. tested-comes er.Par (ranged 0 65535 pattern) _
          (λ bits f. step (Pattern i (bit_and (pattern_at s i) bits)) tt))
      case_of-comes p (call.WaiFlg flag pattern mode) =
          flag_tested-comes flag pattern mode _ (λ i bits o. awaited-comes i bits o limit.Forever)
      case_of-comes p (call.PolFlg flag pattern mode) =
          flag_tested-comes flag pattern mode _ (λ i bits o. awaited-comes i bits o limit.Poll)
      case_of-comes p (call.TwaiFlg flag pattern mode tmout) =
          flag_tested-comes flag pattern mode _ (λ i bits o. tested-comes er.Par (limit_of tmout) _
          (λ m e. awaited-comes i bits o m))
      case_of-comes p (call.SndDtq queue word) =
          tested-comes er.Id (numbered (length s.data_queues) queue) _
          (λ i e. word_sent-comes me x limit.Forever i word (waits_within-comes limit.Forever (cause.Sending i word)))
      case_of-comes p (call.PsndDtq queue word) =
          tested-comes er.Id (numbered (length s.data_queues) queue) _ (λ i e. word_sent-comes me x limit.Poll i word h)
      case_of-comes p (call.TsndDtq queue word tmout) =
          tested-comes er.Id (numbered (length s.data_queues) queue) _ (λ i e. tested-comes er.Par (limit_of tmout) _
          (λ m f. word_sent-comes me x m i word (waits_within-comes m (cause.Sending i word))))
      case_of-comes p (call.FsndDtq queue word) = forces queue word
      case_of-comes p (call.RcvDtq queue) = receives queue limit.Forever
      case_of-comes p (call.PrcvDtq queue) = receives queue limit.Poll
      case_of-comes p (call.TrcvDtq queue tmout) =
          tested-comes er.Id (numbered (length s.data_queues) queue) _ (λ i e. tested-comes er.Par (limit_of tmout) _
          (λ m f. received_from-comes (words_at s i) m i refl))
      case_of-comes p (call.SndMbx mailbox message) =
          tested-comes er.Id (numbered (length s.mailboxes) mailbox) _ (λ i e. tested-comes er.Id
          (numbered (length sys.messages) message) _
          (λ g f. refused_if-comes (is_by_priority (mailbox_config sys i).message_order
          && nat_lt (mailbox_config sys i).most
          (message_priority sys g)) er.Par _ (λ j. refused_if-comes (is_queued g s.mailboxes) er.Obj _
          (λ n. message_sent_to-comes (first_waiting sys s (queue.Mailbox i)) i g
          (λ t k. first-waits sys s (queue.Mailbox i) t k)
          (numbered-there (length sys.messages) message g f) n))))
      case_of-comes p (call.RcvMbx mailbox) =
          tested-comes er.Id (numbered (length s.mailboxes) mailbox) _ (λ i e. takes i limit.Forever)
      case_of-comes p (call.PrcvMbx mailbox) =
          tested-comes er.Id (numbered (length s.mailboxes) mailbox) _ (λ i e. takes i limit.Poll)
      case_of-comes p (call.TrcvMbx mailbox tmout) =
          tested-comes er.Id (numbered (length s.mailboxes) mailbox) _ (λ i e. tested-comes er.Par (limit_of tmout) _
          (λ m f. takes i m))
      case_of-comes p (call.StaCyc cyclic) =
          tested-comes er.Id (numbered (length s.due_times) cyclic) _
          (λ i e. step (Due i (Some (clock_after s (cyclic_config sys i).period))) (after (cyclic_config sys i).period))
      case_of-comes p (call.StpCyc cyclic) =
          tested-comes er.Id (numbered (length s.due_times) cyclic) _ (λ i e. step (Due i None) tt)
      case_of-comes p (call.RotRdq priority) =
          tested-comes er.Par (ranged 0 16 priority) _ (λ n e. rotates p (or_if_zero x.priority n))
      case_of-comes p call.GetTid = h
      case_of-comes p call.LocCpu = locks (processor_at s p).lock p
      case_of-comes p call.UnlCpu = unlocks (processor_at s p).lock p
      case_of-comes p call.DisDsp = step (Cpu p _) tt
      case_of-comes p call.EnaDsp = step (Cpu p _) tt
      case_of-comes p (call.LocSpn lock) =
          tested-comes er.Id (numbered (length sys.spin_locks) lock) _ (λ i e. spins (is_held i s.processors) p i)
      case_of-comes p (call.TrySpn lock) =
          tested-comes er.Id (numbered (length sys.spin_locks) lock) _ (λ i e. refused_if-comes
          (is_held i s.processors) er.Obj _
          (λ f. step (Cpu p _) tt))
      case_of-comes p (call.UnlSpn lock) =
          tested-comes er.Id (numbered (length sys.spin_locks) lock) _
          (λ i e. refused_if-comes (not (is_spin i (processor_at s p).lock)) er.Iluse _ (λ f. step (Cpu p _) tt))
      case_of-comes p (call.IactTsk task) = activates (by_number s task) (number task)
      case_of-comes p (call.IwupTsk task) = wakes (by_number s task) (number task)
      case_of-comes p (call.IrelWai task) =
          on_task-comes (by_number s task) _ (λ t e. released_by-comes (task_at s.tasks t).phase t refl)
      case_of-comes p (call.IsigSem semaphore) = sends semaphore
      case_of-comes p (call.IsetFlg flag pattern) = sets flag pattern
      case_of-comes p (call.IpsndDtq queue word) =
          tested-comes er.Id (numbered (length s.data_queues) queue) _ (λ i e. word_sent-comes me x limit.Poll i word h)
      case_of-comes p (call.IfsndDtq queue word) = forces queue word
      case_of-comes p (call.IrotRdq priority) = tested-comes er.Par (ranged 1 16 priority) _ (λ n e. rotates p n)
      case_of-comes p (call.MrotRdq priority processor) =
          tested-comes er.Par (ranged 0 16 priority) _ (λ n e. tested-comes er.Par (numbered sys.processors processor) _
          (λ q f. rotates q (or_if_zero x.priority n)))

      pub task-comes : (p : ℕ) (c : Call) → Comes (called sys s p (caller.Task me) c)
      task-comes p c =
          refused_if-comes (is_barred (permission (service_of c)) (processor_at s p) (caller.Task me) c) er.Ctx _
          (λ e. case_of-comes p c)

    handled : (p : ℕ) (i : Handler) (c : Call) → Comes (case_of sys s p 0 (task_at [] 0) c)
        → Comes (called sys s p (caller.Handler i) c)
    handled p i c k =
        refused_if-comes (is_barred (permission (service_of c)) (processor_at s p) (caller.Handler i) c) er.Ctx
        (case_of sys s p 0 (task_at [] 0) c) (λ e. k)

    -- a handler calls what it may, or is refused
    pub handler-comes : (p : ℕ) (i : Handler) (c : Call) → Comes (called sys s p (caller.Handler i) c)
    handler-comes p i (call.Put value) = h
    handler-comes p i (call.LdShr word) = tested-comes er.Id (numbered (length s.shared_words) word) _ (λ n e. h)
    handler-comes p i (call.StShr word value) =
        tested-comes er.Id (numbered (length s.shared_words) word) _ (λ n e. step (Word n value) tt)
    handler-comes p i (call.IactTsk task) = handled p i (call.IactTsk task) (activates (by_number s task) (number task))
    handler-comes p i (call.IwupTsk task) = handled p i (call.IwupTsk task) (wakes (by_number s task) (number task))
    handler-comes p i (call.IrelWai task) =
        handled p i (call.IrelWai task)
        (on_task-comes (by_number s task) _ (λ t f. released_by-comes (task_at s.tasks t).phase t refl))
    handler-comes p i (call.IsigSem semaphore) = handled p i (call.IsigSem semaphore) (sends semaphore)
    handler-comes p i (call.IsetFlg flag pattern) = handled p i (call.IsetFlg flag pattern) (sets flag pattern)
    handler-comes p i (call.IpsndDtq queue word) =
        handled p i (call.IpsndDtq queue word) (tested-comes er.Id (numbered (length s.data_queues) queue) _
        (λ n f. word_sent-comes 0 (task_at [] 0) limit.Poll n word h))
    handler-comes p i (call.IfsndDtq queue word) = handled p i (call.IfsndDtq queue word) (forces queue word)
    handler-comes p i (call.IrotRdq priority) =
        handled p i (call.IrotRdq priority) (tested-comes er.Par (ranged 1 16 priority) _ (λ n f. rotates p n))
    handler-comes p i c = h
