-- The calls on data queues and mailboxes have the effect that every call has.
use Rattle.std.proofs.Common.{ℕ, refl, ◌+◌, ℤ, pos, List, [], ◌∷◌, Option, Some, None, Bool, true, false, ◌&&◌, length}
use Rattle.std.proofs.Common.{nat_eq, nat_lt}
use Rattle.fmp_base.specs.declared.codes.Er.TheVariants as er
use Rattle.fmp_base.specs.declared.states.TaskBlock.{TaskBlock}
use Rattle.fmp_base.specs.declared.states.TimeLimit.{TimeLimit}
use Rattle.fmp_base.specs.declared.states.WaitCause.{WaitCause}
use Rattle.fmp_base.specs.declared.states.WaitCause.TheVariants as cause
use Rattle.fmp_base.specs.declared.states.WaitQueue.TheVariants as queue
use Rattle.fmp_base.specs.DataQueueCalls as words
use Rattle.fmp_base.specs.DataQueueCalls.{words_at, has_room, with_words}
use Rattle.fmp_base.specs.MailboxCalls as mailboxes
use Rattle.fmp_base.specs.MailboxCalls.{messages_at, message_priority, is_queued}
use Rattle.fmp_base.specs.Outcomes.{code, given, limit_of, numbered, waits_within}
use Rattle.fmp_base.specs.Queues.{first_waiting, is_by_priority}
use Rattle.fmp_base.specs.States.{KernelState, unchanged, task_at}
use Rattle.fmp_base.specs.Systems.{SystemTables, data_queue_config, mailbox_config}
use Rattle.fmp_worlds.proofs.Changes.{holds-released, actors-released}
use Rattle.fmp_worlds.proofs.Told.{still, woken-released}
use Rattle.fmp_worlds.proofs.Outcomes.{Keeps, MayWait, Within, within, keeps-succeeds, keeps-succeeds_in, keeps-gives}
use Rattle.fmp_worlds.proofs.Outcomes.{keeps-within, keeps-tested, keeps-refused_if}

module _ {K : Type 0} {own : ℕ} {who : Option ℕ} (sys : SystemTables) (s : KernelState) where
  queued_by : (b : Bool) (me : ℕ) (x : TaskBlock) (limit : TimeLimit) (d : ℕ) (v : ℤ)
      → Keeps K own who sys s (waits_within limit s me x (cause.Sending d v))
      → Keeps K own who sys s (words.queued_by b s me x limit d v)
  queued_by true me x limit d v h = keeps-succeeds_in sys s _ (λ a. a) (λ q. refl) (λ t r. r)
  queued_by false me x limit d v h = h

  word_sent_to : (o : Option ℕ) (me : ℕ) (x : TaskBlock) (limit : TimeLimit) (d : ℕ) (v : ℤ)
      → Keeps K own who sys s (waits_within limit s me x (cause.Sending d v))
      → Keeps K own who sys s (words.word_sent_to o sys s me x limit d v)
  word_sent_to (Some t) me x limit d v h = keeps-succeeds sys s _ (λ k a. holds-released (unchanged s) t (given v) a)
      (actors-released (unchanged s) t (given v)) (λ k a. (tt, tt)) (woken-released s (unchanged s) t
      (task_at s.tasks t) _ (still (λ t r. r)))
  word_sent_to None me x limit d v h = queued_by (has_room sys s d) me x limit d v h

  -- also for a handler, which never waits
  pub keeps-snd_dtq : (me : ℕ) (x : TaskBlock) (limit : TimeLimit) (d v : ℤ)
      → ((c : WaitCause) → Keeps K own who sys s (waits_within limit s me x c))
      → Keeps K own who sys s (words.snd_dtq sys s me x limit d v)
  keeps-snd_dtq me x limit d v h =
      keeps-tested sys s er.Id (numbered (length s.data_queues) d) _ (λ i. word_sent_to
      (first_waiting sys s (queue.Receivers i)) me x limit i v (h (cause.Sending i v)))

  pub keeps-tsnd_dtq : (me : ℕ) (d v tmout : ℤ) → MayWait K own who sys s me
      → Keeps K own who sys s (words.tsnd_dtq sys s me (task_at s.tasks me) d v tmout)
  keeps-tsnd_dtq me d v tmout w =
      keeps-tested sys s er.Id (numbered (length s.data_queues) d) _
      (λ i. keeps-tested sys s er.Par (limit_of tmout) _
      (λ limit. word_sent_to (first_waiting sys s (queue.Receivers i)) me (task_at s.tasks me) limit i v
      (keeps-within sys s limit me (cause.Sending i v) (within limit w))))

  forced_in : (b : Bool) (d : ℕ) (v : ℤ) → Keeps K own who sys s (words.forced_in b s d v)
  forced_in true d v = keeps-succeeds_in sys s _ (λ a. a) (λ q. refl) (λ t r. r)
  forced_in false d v = keeps-succeeds_in sys s _ (λ a. a) (λ q. refl) (λ t r. r)

  forced_to : (o : Option ℕ) (d : ℕ) (v : ℤ) → Keeps K own who sys s (words.forced_to o sys s d v)
  forced_to (Some t) d v = keeps-succeeds sys s _ (λ k a. holds-released (unchanged s) t (given v) a)
      (actors-released (unchanged s) t (given v)) (λ k a. (tt, tt)) (woken-released s (unchanged s) t
      (task_at s.tasks t) _ (still (λ t r. r)))
  forced_to None d v = forced_in (has_room sys s d) d v

  pub keeps-fsnd_dtq : (d v : ℤ) → Keeps K own who sys s (words.fsnd_dtq sys s d v)
  keeps-fsnd_dtq d v =
      keeps-tested sys s er.Id (numbered (length s.data_queues) d) _
      (λ i. keeps-refused_if sys s (nat_eq (data_queue_config sys i).capacity 0) er.Iluse _
      (λ e. forced_to (first_waiting sys s (queue.Receivers i)) i v))

  oldest_taken : (o : Option ℕ) (d : ℕ) (w : ℤ) (ws : List ℤ) → Keeps K own who sys s (words.oldest_taken o s d w ws)
  oldest_taken None d w ws = keeps-gives sys s _ _ (λ a. a) (λ q. refl) tt (still (λ t r. r))
  oldest_taken (Some t) d w ws =
      keeps-gives sys s _ _ (λ a. holds-released (unchanged (with_words s d _)) t (code er.Ok) a)
      (actors-released (unchanged (with_words s d _)) t (code er.Ok)) (tt, tt)
      (woken-released s (unchanged (with_words s d _)) t (task_at s.tasks t) _ (still (λ t r. r)))

  sender_taken_from : (o : Option ℕ) (me : ℕ) (limit : TimeLimit) (d : ℕ) → Within limit (MayWait K own who sys s me)
      → Keeps K own who sys s (words.sender_taken_from o s me (task_at s.tasks me) limit d)
  sender_taken_from None me limit d w = keeps-within sys s limit me (cause.Receiving d) w
  sender_taken_from (Some t) me limit d w = keeps-gives sys s _ _ (λ a. holds-released (unchanged s) t (code er.Ok) a)
      (actors-released (unchanged s) t (code er.Ok)) (tt, tt)
      (woken-released s (unchanged s) t (task_at s.tasks t) _ (still (λ t r. r)))

  received_from : (ws : List ℤ) (me : ℕ) (limit : TimeLimit) (d : ℕ) → Within limit (MayWait K own who sys s me)
      → Keeps K own who sys s (words.word_received_from ws sys s me (task_at s.tasks me) limit d)
  received_from [] me limit d w = sender_taken_from (first_waiting sys s (queue.Senders d)) me limit d w
  received_from (v ∷ ws) me limit d w = oldest_taken (first_waiting sys s (queue.Senders d)) d v ws

  pub keeps-rcv_dtq : (me : ℕ) (limit : TimeLimit) (d : ℤ) → Within limit (MayWait K own who sys s me)
      → Keeps K own who sys s (words.rcv_dtq sys s me (task_at s.tasks me) limit d)
  keeps-rcv_dtq me limit d w =
      keeps-tested sys s er.Id (numbered (length s.data_queues) d) _ (λ i. received_from (words_at s i) me limit i w)

  pub keeps-trcv_dtq : (me : ℕ) (d tmout : ℤ) → MayWait K own who sys s me
      → Keeps K own who sys s (words.trcv_dtq sys s me (task_at s.tasks me) d tmout)
  keeps-trcv_dtq me d tmout w =
      keeps-tested sys s er.Id (numbered (length s.data_queues) d) _ (λ i. keeps-tested sys s er.Par
      (limit_of tmout) _ (λ limit. received_from (words_at s i) me limit i (within limit w)))

  message_sent_to : (o : Option ℕ) (mailbox message : ℕ) → Keeps K own who sys s
      (mailboxes.message_sent_to o sys s mailbox message)
  message_sent_to (Some t) mailbox message =
      keeps-succeeds sys s _ (λ k a. holds-released (unchanged s) t (given (pos (message + 1))) a)
      (actors-released (unchanged s) t (given (pos (message + 1)))) (λ k a. (tt, tt))
      (woken-released s (unchanged s) t (task_at s.tasks t) _ (still (λ t r. r)))
  message_sent_to None mailbox message = keeps-succeeds_in sys s _ (λ a. a) (λ q. refl) (λ t r. r)

  message_sent : (mailbox message : ℕ) → Keeps K own who sys s (mailboxes.message_sent sys s mailbox message)
  message_sent mailbox message =
      let b = mailbox_config sys mailbox in
      keeps-refused_if sys s (is_by_priority b.message_order && nat_lt b.most (message_priority sys message)) er.Par _
      (λ e. keeps-refused_if sys s (is_queued message s.mailboxes) er.Obj _
      (λ f. message_sent_to (first_waiting sys s (queue.Mailbox mailbox)) mailbox message))

  pub keeps-snd_mbx : (mailbox message : ℤ) → Keeps K own who sys s (mailboxes.snd_mbx sys s mailbox message)
  keeps-snd_mbx mailbox message =
      keeps-tested sys s er.Id (numbered (length s.mailboxes) mailbox) _
      (λ i. keeps-tested sys s er.Id (numbered (length sys.messages) message) _ (λ j. message_sent i j))

  taken_from : (ms : List ℕ) (me : ℕ) (limit : TimeLimit) (mailbox : ℕ) → Within limit (MayWait K own who sys s me)
      → Keeps K own who sys s (mailboxes.message_taken_from ms s me (task_at s.tasks me) limit mailbox)
  taken_from [] me limit mailbox w = keeps-within sys s limit me (cause.Mailbox mailbox) w
  taken_from (message ∷ rest) me limit mailbox w = keeps-gives sys s _ _ (λ a. a) (λ q. refl) tt (still (λ t r. r))

  pub keeps-rcv_mbx : (me : ℕ) (limit : TimeLimit) (mailbox : ℤ) → Within limit (MayWait K own who sys s me)
      → Keeps K own who sys s (mailboxes.rcv_mbx s me (task_at s.tasks me) limit mailbox)
  keeps-rcv_mbx me limit mailbox w =
      keeps-tested sys s er.Id (numbered (length s.mailboxes) mailbox) _
      (λ i. taken_from (messages_at s i) me limit i w)

  pub keeps-trcv_mbx : (me : ℕ) (mailbox tmout : ℤ) → MayWait K own who sys s me
      → Keeps K own who sys s (mailboxes.trcv_mbx s me (task_at s.tasks me) mailbox tmout)
  keeps-trcv_mbx me mailbox tmout w =
      keeps-tested sys s er.Id (numbered (length s.mailboxes) mailbox) _
      (λ i. keeps-tested sys s er.Par (limit_of tmout) _ (λ limit. taken_from (messages_at s i) me limit i
      (within limit w)))
