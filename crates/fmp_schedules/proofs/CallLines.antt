-- No service call makes a line of an interrupt.
use Rattle.std.proofs.Common.{◌≡◌, ℕ, zero, suc, ℤ, pos, List, [], ◌∷◌, ◌++◌, Option, Some, None, Bool, true, false}
use Rattle.std.proofs.Common.{◌&&◌, ◌||◌, not, refl, ◌∙◌, ap, nat_eq, nat_lt, length, get_or, bit_or, if◌then◌else◌}
use Rattle.std.specs.List.{list_any}
use Rattle.std.proofs.lemmas.List.Folds.{list_any-append}
use Rattle.fmp_base.specs.declared.calls.Call.{Call}
use Rattle.fmp_base.specs.declared.calls.Call.TheVariants as call
use Rattle.fmp_base.specs.declared.calls.Reply.{Reply}
use Rattle.fmp_base.specs.declared.codes.Er.{Er}
use Rattle.fmp_base.specs.declared.codes.Er.TheVariants as er
use Rattle.fmp_base.specs.declared.events.Line.{Line}
use Rattle.fmp_base.specs.declared.states.Caller.{Caller}
use Rattle.fmp_base.specs.declared.states.Caller.TheVariants as caller
use Rattle.fmp_base.specs.declared.states.FlagMode.{FlagMode}
use Rattle.fmp_base.specs.declared.states.Lock.{Lock}
use Rattle.fmp_base.specs.declared.states.Lock.TheVariants.{Free, Cpu as Locked, Spin}
use Rattle.fmp_base.specs.declared.states.Phase.{Phase}
use Rattle.fmp_base.specs.declared.states.Phase.TheVariants.{Dormant, Ready, Waiting}
use Rattle.fmp_base.specs.declared.states.TaskBlock.{TaskBlock}
use Rattle.fmp_base.specs.declared.states.TimeLimit.{TimeLimit}
use Rattle.fmp_base.specs.declared.states.TimeLimit.TheVariants as limit
use Rattle.fmp_base.specs.declared.states.WaitCause.{WaitCause}
use Rattle.fmp_base.specs.declared.states.WaitCause.TheVariants as cause
use Rattle.fmp_base.specs.declared.states.WaitQueue.TheVariants as queue
use Rattle.fmp_base.specs.Calls.{case_by, case_of, called}
use Rattle.fmp_base.specs.Changes.{ended, ended_block, ended_by, released, started}
use Rattle.fmp_base.specs.DataQueueCalls.{words_at, has_room, queued_by, word_sent, word_sent_to, forced_in, forced_to}
use Rattle.fmp_base.specs.DataQueueCalls.{oldest_taken, sender_taken_from, word_received, word_received_from}
use Rattle.fmp_base.specs.FlagCalls.{pattern_at, satisfies, is_satisfied, obtained, awaited, awaited_by, is_empty}
use Rattle.fmp_base.specs.FlagCalls.{flag_tested, mode_of, walk, walked}
use Rattle.fmp_base.specs.MailboxCalls.{messages_at, message_priority, is_queued, message_received, message_sent}
use Rattle.fmp_base.specs.MailboxCalls.{message_sent_to, message_taken_from}
use Rattle.fmp_base.specs.Outcomes.{CallOutcome, given, waits_within, limit_of, numbered, ranged, tested, refused_if}
use Rattle.fmp_base.specs.Outcomes.{on_task}
use Rattle.fmp_base.specs.Permissions.{permission, is_barred}
use Rattle.fmp_base.specs.ProcessorCalls.{cpu_locked_from, cpu_unlocked_from, is_held, is_spin, spin_lock_taken}
use Rattle.fmp_base.specs.Queues.{first_waiting, is_by_priority, wait_queue}
use Rattle.fmp_base.specs.SemaphoreCalls.{acquired_by, signalled_to}
use Rattle.fmp_base.specs.Services.{service_of}
use Rattle.fmp_base.specs.States.{KernelState, Progress, processor_at, task_at, unchanged}
use Rattle.fmp_base.specs.Systems.{SystemTables, data_queue_config, flag_config, mailbox_config, semaphore_config}
use Rattle.fmp_base.specs.TaskCalls.{activated_by, activated_on_by, allowed_processor, by_number, is_dormant}
use Rattle.fmp_base.specs.TaskCalls.{released_by, self_or, slept_by, wakeup_queued, woken_by, woken_from}
use Rattle.fmp_schedules.specs.Schedules.{is_request}

-- none of the lines is that of an interrupt
abbrev pub AreQuiet : List Line → Type 0
AreQuiet ls = list_any is_request ls ≡ false

pub quiet-append : (xs ys : List Line) → AreQuiet xs → AreQuiet ys → AreQuiet (xs ++ ys)
quiet-append xs ys h k =
    list_any-append is_request xs ys ∙ ap (λ (b : Bool). b || list_any is_request ys) h ∙ k

abbrev pub IsQuiet : Progress → Type 0
IsQuiet g = AreQuiet g.lines

pub started-quiet : (sys : SystemTables) (g : Progress) (t : ℕ) (x : TaskBlock) → IsQuiet g
    → IsQuiet (started sys g t x)
started-quiet sys g t x h = quiet-append g.lines _ h refl

pub released-quiet : (g : Progress) (t : ℕ) (x : TaskBlock) (reply : Reply) → IsQuiet g → IsQuiet (released g t x reply)
released-quiet g t x reply h = quiet-append g.lines _ h refl

ended_by-quiet : (n : ℕ) (sys : SystemTables) (g : Progress) (t : ℕ) (y : TaskBlock) → IsQuiet g
    → IsQuiet (ended_by n sys g t y)
ended_by-quiet zero sys g t y h = h
ended_by-quiet (suc n) sys g t y h = started-quiet sys g t (record y { activations = n }) h

pub ended-quiet : (sys : SystemTables) (g : Progress) (t : ℕ) (x : TaskBlock) → IsQuiet g → IsQuiet (ended sys g t x)
ended-quiet sys g t x h = ended_by-quiet x.activations sys g t (ended_block sys t x) h

walked-quiet : (b c : Bool) (f : ℕ) (g after : Progress) (rest : Progress → Progress) → IsQuiet g → IsQuiet after
    → ((i : Progress) → IsQuiet i → IsQuiet (rest i)) → IsQuiet (walked b c f g after rest)
walked-quiet false c f g after rest h k go = go g h
walked-quiet true false f g after rest h k go = go after k
walked-quiet true true f g after rest h k go = k

walk-quiet : (clears : Bool) (f bits : ℕ) (ts : List ℕ) (g : Progress) → IsQuiet g → IsQuiet (walk clears f bits ts g)
walk-quiet clears f bits [] g h = h
walk-quiet clears f bits (t ∷ ts) g h =
    let x = task_at g.state.tasks t in
    walked-quiet (is_satisfied x.phase bits) clears f g (released g t x (given (pos bits))) _ h
    (released-quiet g t x (given (pos bits)) h) (λ i k. walk-quiet clears f bits ts i k)

module _ (sys : SystemTables) (s : KernelState) where
  abbrev Quiet : CallOutcome → Type 0
  Quiet o = IsQuiet o.progress

  tested-quiet : {A : Type 0} (e : Er) (o : Option A) (f : A → CallOutcome) → ((i : A) → Quiet (f i))
      → Quiet (tested s e o f)
  tested-quiet e None f k = refl
  tested-quiet e (Some i) f k = k i

  refused_if-quiet : (c : Bool) (e : Er) (o : CallOutcome) → Quiet o → Quiet (refused_if c s e o)
  refused_if-quiet true e o k = refl
  refused_if-quiet false e o k = k

  on_task-quiet : (o : Option ℕ) (f : ℕ → TaskBlock → CallOutcome) → ((t : ℕ) (x : TaskBlock) → Quiet (f t x))
      → Quiet (on_task s o f)
  on_task-quiet None f k = refl
  on_task-quiet (Some t) f k = k t (task_at s.tasks t)

  either-quiet : (c : Bool) (o p : CallOutcome) → Quiet o → Quiet p → Quiet (if c then o else p)
  either-quiet true o p k l = k
  either-quiet false o p k l = l

  waits-quiet : (m : TimeLimit) (me : ℕ) (x : TaskBlock) (c : WaitCause) → Quiet (waits_within m s me x c)
  waits-quiet limit.Forever me x c = refl
  waits-quiet limit.Poll me x c = refl
  waits-quiet (limit.Ticks n) me x c = refl

  -- tasks
  activated_by-quiet : (p : Phase) (t : ℕ) (x : TaskBlock) → Quiet (activated_by p sys s t x)
  activated_by-quiet Dormant t x = refl
  activated_by-quiet Ready t x = either-quiet (nat_lt x.activations sys.queue_limit) _ _ refl refl
  activated_by-quiet (Waiting c) t x = either-quiet (nat_lt x.activations sys.queue_limit) _ _ refl refl

  activated_on_by-quiet : (p : Phase) (t : ℕ) (x : TaskBlock) (c : ℕ) → Quiet (activated_on_by p sys s t x c)
  activated_on_by-quiet Dormant t x c = refl
  activated_on_by-quiet Ready t x c = either-quiet (nat_lt x.activations sys.queue_limit) _ _ refl refl
  activated_on_by-quiet (Waiting w) t x c = either-quiet (nat_lt x.activations sys.queue_limit) _ _ refl refl

  wakeup_queued-quiet : (t : ℕ) (x : TaskBlock) → Quiet (wakeup_queued sys s t x)
  wakeup_queued-quiet t x = either-quiet (nat_lt x.wakeups sys.queue_limit) _ _ refl refl

  woken_from-quiet : (c : WaitCause) (t : ℕ) (x : TaskBlock) → Quiet (woken_from c sys s t x)
  woken_from-quiet cause.Sleep t x = refl
  woken_from-quiet c t x = wakeup_queued-quiet t x

  woken_by-quiet : (p : Phase) (t : ℕ) (x : TaskBlock) → Quiet (woken_by p sys s t x)
  woken_by-quiet Dormant t x = refl
  woken_by-quiet Ready t x = wakeup_queued-quiet t x
  woken_by-quiet (Waiting c) t x = woken_from-quiet c t x

  released_by-quiet : (p : Phase) (t : ℕ) (x : TaskBlock) → Quiet (released_by p s t x)
  released_by-quiet Dormant t x = refl
  released_by-quiet Ready t x = refl
  released_by-quiet (Waiting c) t x = refl

  slept_by-quiet : (n me : ℕ) (x : TaskBlock) (m : TimeLimit) → Quiet (slept_by n s me x m)
  slept_by-quiet zero me x m = waits-quiet m me x cause.Sleep
  slept_by-quiet (suc n) me x m = refl

  -- objects
  signalled_to-quiet : (o : Option ℕ) (i n : ℕ) → Quiet (signalled_to o sys s i n)
  signalled_to-quiet (Some t) i n = refl
  signalled_to-quiet None i n = either-quiet (nat_lt n (semaphore_config sys i).most) _ _ refl refl

  acquired_by-quiet : (n me : ℕ) (x : TaskBlock) (m : TimeLimit) (i : ℕ) → Quiet (acquired_by n s me x m i)
  acquired_by-quiet zero me x m i = waits-quiet m me x (cause.Semaphore i)
  acquired_by-quiet (suc n) me x m i = refl

  obtained-quiet : (c : Bool) (f : ℕ) → Quiet (obtained c s f)
  obtained-quiet true f = refl
  obtained-quiet false f = refl

  awaited_by-quiet : (c : Bool) (me : ℕ) (x : TaskBlock) (m : TimeLimit) (f pattern : ℕ) (mode : FlagMode)
      → Quiet (awaited_by c sys s me x m f pattern mode)
  awaited_by-quiet true me x m f pattern mode = obtained-quiet (flag_config sys f).clears f
  awaited_by-quiet false me x m f pattern mode = waits-quiet m me x (cause.Flag f pattern mode)

  awaited-quiet : (me : ℕ) (x : TaskBlock) (f pattern : ℕ) (mode : FlagMode) (m : TimeLimit)
      → Quiet (awaited sys s me x f pattern mode m)
  awaited-quiet me x f pattern mode m =
      refused_if-quiet (not (flag_config sys f).multiple && not (is_empty (wait_queue sys s (queue.Flag f)))) er.Iluse _
      (awaited_by-quiet (satisfies mode pattern (pattern_at s f)) me x m f pattern mode)

  flag_tested-quiet : (f bits o : ℤ) (next : ℕ → ℕ → FlagMode → CallOutcome)
      → ((i n : ℕ) (mode : FlagMode) → Quiet (next i n mode)) → Quiet (flag_tested s f bits o next)
  flag_tested-quiet f bits o next k =
      tested-quiet er.Id (numbered (length s.flags) f) _ (λ i. tested-quiet er.Par (ranged 1 65535 bits) _
      (λ n. tested-quiet er.Par (mode_of o) (next i n) (λ mode. k i n mode)))

  queued_by-quiet : (r : Bool) (me : ℕ) (x : TaskBlock) (m : TimeLimit) (d : ℕ) (w : ℤ)
      → Quiet (queued_by r s me x m d w)
  queued_by-quiet true me x m d w = refl
  queued_by-quiet false me x m d w = waits-quiet m me x (cause.Sending d w)

  word_sent_to-quiet : (o : Option ℕ) (me : ℕ) (x : TaskBlock) (m : TimeLimit) (d : ℕ) (w : ℤ)
      → Quiet (word_sent_to o sys s me x m d w)
  word_sent_to-quiet (Some t) me x m d w = refl
  word_sent_to-quiet None me x m d w = queued_by-quiet (has_room sys s d) me x m d w

  sends : (me : ℕ) (x : TaskBlock) (w : ℤ) (m : TimeLimit) (d : ℕ) → Quiet (word_sent sys s me x w m d)
  sends me x w m d = word_sent_to-quiet (first_waiting sys s (queue.Receivers d)) me x m d w

  forced_in-quiet : (r : Bool) (d : ℕ) (w : ℤ) → Quiet (forced_in r s d w)
  forced_in-quiet true d w = refl
  forced_in-quiet false d w = refl

  forced_to-quiet : (o : Option ℕ) (d : ℕ) (w : ℤ) → Quiet (forced_to o sys s d w)
  forced_to-quiet (Some t) d w = refl
  forced_to-quiet None d w = forced_in-quiet (has_room sys s d) d w

  forces : (d w : ℤ) → Quiet (case_of sys s 0 0 (task_at [] 0) (call.FsndDtq d w))
  forces d w =
      tested-quiet er.Id (numbered (length s.data_queues) d) _
      (λ i. refused_if-quiet (nat_eq (data_queue_config sys i).capacity 0) er.Iluse _
      (forced_to-quiet (first_waiting sys s (queue.Receivers i)) i w))

  oldest_taken-quiet : (o : Option ℕ) (d : ℕ) (w : ℤ) (ws : List ℤ) → Quiet (oldest_taken o s d w ws)
  oldest_taken-quiet None d w ws = refl
  oldest_taken-quiet (Some t) d w ws = refl

  sender_taken_from-quiet : (o : Option ℕ) (me : ℕ) (x : TaskBlock) (m : TimeLimit) (d : ℕ)
      → Quiet (sender_taken_from o s me x m d)
  sender_taken_from-quiet None me x m d = waits-quiet m me x (cause.Receiving d)
  sender_taken_from-quiet (Some t) me x m d = refl

  received_from-quiet : (words : List ℤ) (me : ℕ) (x : TaskBlock) (m : TimeLimit) (d : ℕ)
      → Quiet (word_received_from words sys s me x m d)
  received_from-quiet [] me x m d = sender_taken_from-quiet (first_waiting sys s (queue.Senders d)) me x m d
  received_from-quiet (w ∷ ws) me x m d = oldest_taken-quiet (first_waiting sys s (queue.Senders d)) d w ws

  receives : (me : ℕ) (x : TaskBlock) (m : TimeLimit) (d : ℕ) → Quiet (word_received sys s me x m d)
  receives me x m d = received_from-quiet (words_at s d) me x m d

  message_sent_to-quiet : (o : Option ℕ) (mailbox message : ℕ) → Quiet (message_sent_to o sys s mailbox message)
  message_sent_to-quiet (Some t) mailbox message = refl
  message_sent_to-quiet None mailbox message = refl

  message_sent-quiet : (mailbox message : ℕ) → Quiet (message_sent sys s mailbox message)
  message_sent-quiet i g =
      refused_if-quiet (is_by_priority (mailbox_config sys i).message_order && nat_lt (mailbox_config sys i).most
      (message_priority sys g)) er.Par _ (refused_if-quiet (is_queued g s.mailboxes) er.Obj _
      (message_sent_to-quiet (first_waiting sys s (queue.Mailbox i)) i g))

  taken_from-quiet : (messages : List ℕ) (me : ℕ) (x : TaskBlock) (m : TimeLimit) (mailbox : ℕ)
      → Quiet (message_taken_from messages s me x m mailbox)
  taken_from-quiet [] me x m mailbox = waits-quiet m me x (cause.Mailbox mailbox)
  taken_from-quiet (message ∷ rest) me x m mailbox = refl

  takes : (me : ℕ) (x : TaskBlock) (m : TimeLimit) (mailbox : ℕ) → Quiet (message_received s me x m mailbox)
  takes me x m mailbox = taken_from-quiet (messages_at s mailbox) me x m mailbox

  -- processors
  locks : (l : Lock) (p : ℕ) → Quiet (cpu_locked_from l s p)
  locks Free p = refl
  locks Locked p = refl
  locks (Spin l) p = refl

  unlocks : (l : Lock) (p : ℕ) → Quiet (cpu_unlocked_from l s p)
  unlocks Free p = refl
  unlocks Locked p = refl
  unlocks (Spin l) p = refl

  spins : (c : Bool) (p l : ℕ) → Quiet (spin_lock_taken c s p l)
  spins true p l = refl
  spins false p l = refl

  -- by number, with a limit, or both
  semaphores : (i : ℤ) (f : ℕ → CallOutcome) → ((n : ℕ) → Quiet (f n))
      → Quiet (tested s er.Id (numbered (length s.semaphores) i) f)
  semaphores i f k = tested-quiet er.Id (numbered (length s.semaphores) i) f k

  queues : (i : ℤ) (f : ℕ → CallOutcome) → ((n : ℕ) → Quiet (f n))
      → Quiet (tested s er.Id (numbered (length s.data_queues) i) f)
  queues i f k = tested-quiet er.Id (numbered (length s.data_queues) i) f k

  boxes : (i : ℤ) (f : ℕ → CallOutcome) → ((n : ℕ) → Quiet (f n))
      → Quiet (tested s er.Id (numbered (length s.mailboxes) i) f)
  boxes i f k = tested-quiet er.Id (numbered (length s.mailboxes) i) f k

  limits : (t : ℤ) (f : TimeLimit → CallOutcome) → ((m : TimeLimit) → Quiet (f m))
      → Quiet (tested s er.Par (limit_of t) f)
  limits t f k = tested-quiet er.Par (limit_of t) f k

  signals : (i : ℤ) → Quiet (case_of sys s 0 0 (task_at [] 0) (call.SigSem i))
  signals i =
      semaphores i _ (λ n. signalled_to-quiet (first_waiting sys s (queue.Semaphore n)) n (get_or s.semaphores n 0))

  sets : (f bits : ℤ) → Quiet (case_of sys s 0 0 (task_at [] 0) (call.SetFlg f bits))
  sets f bits =
      tested-quiet er.Id (numbered (length s.flags) f) _ (λ i. tested-quiet er.Par (ranged 0 65535 bits) _
      (λ n. walk-quiet (flag_config sys i).clears i (bit_or (pattern_at s i) n) (wait_queue sys s (queue.Flag i)) _
      refl))

  activates : (o : Option ℕ) → Quiet (on_task s o (λ t x. activated_by x.phase sys s t x))
  activates o = on_task-quiet o _ (λ t x. activated_by-quiet x.phase t x)

  wakes : (o : Option ℕ) → Quiet (on_task s o (λ t x. woken_by x.phase sys s t x))
  wakes o = on_task-quiet o _ (λ t x. woken_by-quiet x.phase t x)

  releases : (o : Option ℕ) → Quiet (on_task s o (λ t x. released_by x.phase s t x))
  releases o = on_task-quiet o _ (λ t x. released_by-quiet x.phase t x)

  case_of-quiet : (p me : ℕ) (x : TaskBlock) (c : Call) → Quiet (case_of sys s p me x c)
  case_of-quiet p me x (call.Put value) = refl
  case_of-quiet p me x (call.LdShr word) = tested-quiet er.Id (numbered (length s.shared_words) word) _ (λ n. refl)
  case_of-quiet p me x (call.StShr word value) =
      tested-quiet er.Id (numbered (length s.shared_words) word) _ (λ n. refl)
  case_of-quiet p me x (call.ActTsk task) = activates (self_or s me task)
  case_of-quiet p me x (call.CanAct task) = on_task-quiet (self_or s me task) _ (λ t y. refl)
  case_of-quiet p me x call.ExtTsk = ended-quiet sys _ me x refl
  case_of-quiet p me x (call.TerTsk task) =
      on_task-quiet (by_number s task) _ (λ t y. refused_if-quiet (nat_eq t me) er.Iluse _
      (refused_if-quiet (is_dormant y.phase || not (nat_eq y.processor p)) er.Obj _
      (ended-quiet sys (unchanged s) t y refl)))
  case_of-quiet p me x (call.ChgPri task priority) =
      on_task-quiet (self_or s me task) _ (λ t y. tested-quiet er.Par (ranged 0 16 priority) _
      (λ n. refused_if-quiet (is_dormant y.phase) er.Obj _ refl))
  case_of-quiet p me x (call.GetPri task) =
      on_task-quiet (self_or s me task) _ (λ t y. refused_if-quiet (is_dormant y.phase) er.Obj _ refl)
  case_of-quiet p me x (call.MactTsk task processor) =
      on_task-quiet (self_or s me task) _ (λ t y. tested-quiet er.Par (allowed_processor sys t processor) _
      (λ n. activated_on_by-quiet y.phase t y n))
  case_of-quiet p me x (call.MigTsk task processor) =
      on_task-quiet (self_or s me task) _ (λ t y. tested-quiet er.Par (allowed_processor sys t processor) _
      (λ n. refused_if-quiet (is_dormant y.phase || not (nat_eq y.processor p)) er.Obj _ refl))
  case_of-quiet p me x call.SlpTsk = slept_by-quiet x.wakeups me x limit.Forever
  case_of-quiet p me x (call.TslpTsk tmout) = limits tmout _ (λ m. slept_by-quiet x.wakeups me x m)
  case_of-quiet p me x (call.WupTsk task) = wakes (self_or s me task)
  case_of-quiet p me x (call.CanWup task) =
      on_task-quiet (self_or s me task) _ (λ t y. refused_if-quiet (is_dormant y.phase) er.Obj _ refl)
  case_of-quiet p me x (call.RelWai task) = releases (by_number s task)
  case_of-quiet p me x (call.SusTsk task) =
      on_task-quiet (self_or s me task) _ (λ t y. refused_if-quiet (is_dormant y.phase) er.Obj _
      (refused_if-quiet y.suspended er.Qovr _ refl))
  case_of-quiet p me x (call.RsmTsk task) =
      on_task-quiet (by_number s task) _ (λ t y. refused_if-quiet (not y.suspended) er.Obj _ refl)
  case_of-quiet p me x (call.DlyTsk delay) = tested-quiet er.Par (ranged 0 _ delay) _ (λ n. refl)
  case_of-quiet p me x (call.SigSem semaphore) = signals semaphore
  case_of-quiet p me x (call.WaiSem semaphore) =
      semaphores semaphore _ (λ n. acquired_by-quiet (get_or s.semaphores n 0) me x limit.Forever n)
  case_of-quiet p me x (call.PolSem semaphore) =
      semaphores semaphore _ (λ n. acquired_by-quiet (get_or s.semaphores n 0) me x limit.Poll n)
  case_of-quiet p me x (call.TwaiSem semaphore tmout) =
      semaphores semaphore _ (λ n. limits tmout _ (λ m. acquired_by-quiet (get_or s.semaphores n 0) me x m n))
  case_of-quiet p me x (call.SetFlg flag pattern) = sets flag pattern
  case_of-quiet p me x (call.ClrFlg flag pattern) =
      tested-quiet er.Id (numbered (length s.flags) flag) _
      (λ i. tested-quiet er.Par (ranged 0 65535 pattern) _ (λ n. refl))
  case_of-quiet p me x (call.WaiFlg flag pattern mode) =
      flag_tested-quiet flag pattern mode _ (λ i bits o. awaited-quiet me x i bits o limit.Forever)
  case_of-quiet p me x (call.PolFlg flag pattern mode) =
      flag_tested-quiet flag pattern mode _ (λ i bits o. awaited-quiet me x i bits o limit.Poll)
  case_of-quiet p me x (call.TwaiFlg flag pattern mode tmout) =
      flag_tested-quiet flag pattern mode _ (λ i bits o. limits tmout _ (λ m. awaited-quiet me x i bits o m))
  case_of-quiet p me x (call.SndDtq queue word) = queues queue _ (λ i. sends me x word limit.Forever i)
  case_of-quiet p me x (call.PsndDtq queue word) = queues queue _ (λ i. sends me x word limit.Poll i)
  case_of-quiet p me x (call.TsndDtq queue word tmout) = queues queue _ (λ i. limits tmout _ (λ m. sends me x word m i))
  case_of-quiet p me x (call.FsndDtq queue word) = forces queue word
  case_of-quiet p me x (call.RcvDtq queue) = queues queue _ (λ i. receives me x limit.Forever i)
  case_of-quiet p me x (call.PrcvDtq queue) = queues queue _ (λ i. receives me x limit.Poll i)
  case_of-quiet p me x (call.TrcvDtq queue tmout) = queues queue _ (λ i. limits tmout _ (λ m. receives me x m i))
  case_of-quiet p me x (call.SndMbx mailbox message) =
      boxes mailbox _ (λ i. tested-quiet er.Id (numbered (length sys.messages) message) _ (λ g. message_sent-quiet i g))
  case_of-quiet p me x (call.RcvMbx mailbox) = boxes mailbox _ (λ i. takes me x limit.Forever i)
  case_of-quiet p me x (call.PrcvMbx mailbox) = boxes mailbox _ (λ i. takes me x limit.Poll i)
  case_of-quiet p me x (call.TrcvMbx mailbox tmout) = boxes mailbox _ (λ i. limits tmout _ (λ m. takes me x m i))
  case_of-quiet p me x (call.StaCyc cyclic) = tested-quiet er.Id (numbered (length s.due_times) cyclic) _ (λ i. refl)
  case_of-quiet p me x (call.StpCyc cyclic) = tested-quiet er.Id (numbered (length s.due_times) cyclic) _ (λ i. refl)
  case_of-quiet p me x (call.RotRdq priority) = tested-quiet er.Par (ranged 0 16 priority) _ (λ n. refl)
  case_of-quiet p me x call.GetTid = refl
  case_of-quiet p me x call.LocCpu = locks (processor_at s p).lock p
  case_of-quiet p me x call.UnlCpu = unlocks (processor_at s p).lock p
  case_of-quiet p me x call.DisDsp = refl
  case_of-quiet p me x call.EnaDsp = refl
  case_of-quiet p me x (call.LocSpn lock) =
      tested-quiet er.Id (numbered (length sys.spin_locks) lock) _ (λ i. spins (is_held i s.processors) p i)
  case_of-quiet p me x (call.TrySpn lock) =
      tested-quiet er.Id (numbered (length sys.spin_locks) lock) _
      (λ i. refused_if-quiet (is_held i s.processors) er.Obj _ refl)
  case_of-quiet p me x (call.UnlSpn lock) =
      tested-quiet er.Id (numbered (length sys.spin_locks) lock) _
      (λ i. refused_if-quiet (not (is_spin i (processor_at s p).lock)) er.Iluse _ refl)
  case_of-quiet p me x (call.IactTsk task) = activates (by_number s task)
  case_of-quiet p me x (call.IwupTsk task) = wakes (by_number s task)
  case_of-quiet p me x (call.IrelWai task) = releases (by_number s task)
  case_of-quiet p me x (call.IsigSem semaphore) = signals semaphore
  case_of-quiet p me x (call.IsetFlg flag pattern) = sets flag pattern
  case_of-quiet p me x (call.IpsndDtq queue word) = queues queue _ (λ i. sends me x word limit.Poll i)
  case_of-quiet p me x (call.IfsndDtq queue word) = forces queue word
  case_of-quiet p me x (call.IrotRdq priority) = tested-quiet er.Par (ranged 1 16 priority) _ (λ n. refl)
  case_of-quiet p me x (call.MrotRdq priority processor) =
      tested-quiet er.Par (ranged 0 16 priority) _
      (λ n. tested-quiet er.Par (numbered sys.processors processor) _ (λ q. refl))

  case_by-quiet : (p : ℕ) (who : Caller) (c : Call) → Quiet (case_by sys s p who c)
  case_by-quiet p (caller.Task me) c = case_of-quiet p me (task_at s.tasks me) c
  case_by-quiet p (caller.Handler h) c = case_of-quiet p 0 (task_at [] 0) c

  pub called-quiet : (p : ℕ) (who : Caller) (c : Call) → Quiet (called sys s p who c)
  called-quiet p who c =
      refused_if-quiet (is_barred (permission (service_of c)) (processor_at s p) who c) er.Ctx _ (case_by-quiet p who c)
