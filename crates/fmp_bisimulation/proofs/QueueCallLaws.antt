-- The service calls on data queues and mailboxes come to the same in alike states.
use Rattle.std.proofs.Common.{◌+◌, ℕ, ℤ, pos, List, [], ◌∷◌, ◌++◌, Option, Some, None, Bool, true, false, ◌&&◌, refl}
use Rattle.std.proofs.Common.{subst, length, nat_eq, nat_lt}
use Rattle.fmp_base.specs.declared.codes.Er.TheVariants as er
use Rattle.fmp_base.specs.declared.states.TaskBlock.{TaskBlock}
use Rattle.fmp_base.specs.declared.states.TimeLimit.{TimeLimit}
use Rattle.fmp_base.specs.declared.states.WaitCause.TheVariants as cause
use Rattle.fmp_base.specs.declared.states.WaitQueue.TheVariants as queue
use Rattle.fmp_base.specs.Changes.{released}
use Rattle.fmp_base.specs.DataQueueCalls.{words_at, with_words, has_room, queued_by, word_sent_to, word_sent, snd_dtq}
use Rattle.fmp_base.specs.DataQueueCalls.{tsnd_dtq, without_oldest, forced_in, forced_to, fsnd_dtq, offered_word}
use Rattle.fmp_base.specs.DataQueueCalls.{oldest_taken, sender_taken_from, word_received_from, rcv_dtq, trcv_dtq}
use Rattle.fmp_base.specs.MailboxCalls.{messages_at, with_messages, is_queued, enqueued, message_priority}
use Rattle.fmp_base.specs.MailboxCalls.{message_sent_to, message_sent, snd_mbx, message_taken_from, rcv_mbx, trcv_mbx}
use Rattle.fmp_base.specs.Outcomes.{code, given, succeeds_in, gives, limit_of, numbered}
use Rattle.fmp_base.specs.Queues.{first_waiting, is_by_priority}
use Rattle.fmp_base.specs.States.{KernelState, unchanged, task_at}
use Rattle.fmp_base.specs.Systems.{SystemTables, data_queue_config, mailbox_config}
use Rattle.fmp_bisimulation.specs.Alike.{AlikeStates, SameProgress, SameOutcome}
use Rattle.fmp_bisimulation.proofs.ChangeLaws.{unchanged-same, released-same, released_at-same}
use Rattle.fmp_bisimulation.proofs.OutcomeLaws.{succeeds-same, succeeds_in-same, gives-same, tested-same}
use Rattle.fmp_bisimulation.proofs.OutcomeLaws.{refused_if-same, waits_within-same}
use Rattle.fmp_bisimulation.proofs.ReadLaws.{first_waiting-same}
use Rattle.fmp_bisimulation.proofs.StateLaws.{View, seen, alike-changed}
use Rattle.fmp_bisimulation.proofs.TimeLaws.{by_block, blocks-at}

module _ (sys : SystemTables) (s : KernelState) (v : View) (h : AlikeStates sys s (seen s v)) where
  words-same : (d : ℕ) (words : List ℤ) → AlikeStates sys (with_words s d words) (with_words (seen s v) d words)
  words-same d words = alike-changed sys (λ z. with_words z d words) (λ z. refl) (λ z. refl) s (seen s v) h

  stored-same : (d : ℕ) (words : List ℤ) → SameOutcome sys (succeeds_in (with_words s d words))
      (succeeds_in (with_words (seen s v) d words))
  stored-same d words = succeeds_in-same sys _ _ (words-same d words)

  queued_by-same : (b : Bool) (me : ℕ) (x : TaskBlock) (a : Option ℕ) (m : TimeLimit) (d : ℕ) (w : ℤ)
      → SameOutcome sys (queued_by b s me x m d w) (queued_by b (seen s v) me (record x { deadline = a }) m d w)
  queued_by-same true me x a m d w = stored-same d (words_at s d ++ w ∷ [])
  queued_by-same false me x a m d w = waits_within-same sys s (seen s v) h m me x a (cause.Sending d w)

  word_sent_to-same : (o : Option ℕ) (me : ℕ) (x : TaskBlock) (a : Option ℕ) (m : TimeLimit) (d : ℕ) (w : ℤ)
      → SameOutcome sys (word_sent_to o sys s me x m d w) (word_sent_to o sys (seen s v) me
      (record x { deadline = a }) m d w)
  word_sent_to-same (Some t) me x a m d w =
      succeeds-same sys _ _
      (released_at-same sys (unchanged s) (unchanged (seen s v)) t (given w) (unchanged-same sys s (seen s v) h))
  word_sent_to-same None me x a m d w = queued_by-same (has_room sys s d) me x a m d w

  word_sent-same : (me : ℕ) (x : TaskBlock) (a : Option ℕ) (w : ℤ) (m : TimeLimit) (d : ℕ)
      → SameOutcome sys (word_sent sys s me x w m d) (word_sent sys (seen s v) me (record x { deadline = a }) w m d)
  word_sent-same me x a w m d =
      subst (λ (o : Option ℕ). SameOutcome sys (word_sent sys s me x w m d)
      (word_sent_to o sys (seen s v) me (record x { deadline = a }) m d w))
      (first_waiting-same sys s (seen s v) (queue.Receivers d) h)
      (word_sent_to-same (first_waiting sys s (queue.Receivers d)) me x a m d w)

  pub snd_dtq-same : (me : ℕ) (x : TaskBlock) (a : Option ℕ) (m : TimeLimit) (d w : ℤ)
      → SameOutcome sys (snd_dtq sys s me x m d w) (snd_dtq sys (seen s v) me (record x { deadline = a }) m d w)
  snd_dtq-same me x a m d w =
      tested-same sys s (seen s v) h er.Id (numbered (length s.data_queues) d) _ _ (λ i. word_sent-same me x a w m i)

  pub tsnd_dtq-same : (me : ℕ) (x : TaskBlock) (a : Option ℕ) (d w tmout : ℤ)
      → SameOutcome sys (tsnd_dtq sys s me x d w tmout) (tsnd_dtq sys (seen s v) me
      (record x { deadline = a }) d w tmout)
  tsnd_dtq-same me x a d w tmout =
      tested-same sys s (seen s v) h er.Id (numbered (length s.data_queues) d) _ _
      (λ i. tested-same sys s (seen s v) h er.Par (limit_of tmout) _ _ (λ m. word_sent-same me x a w m i))

  forced_in-same : (b : Bool) (d : ℕ) (w : ℤ) → SameOutcome sys (forced_in b s d w) (forced_in b (seen s v) d w)
  forced_in-same true d w = stored-same d (words_at s d ++ w ∷ [])
  forced_in-same false d w = stored-same d (without_oldest (words_at s d) ++ w ∷ [])

  forced_to-same : (o : Option ℕ) (d : ℕ) (w : ℤ) → SameOutcome sys (forced_to o sys s d w)
      (forced_to o sys (seen s v) d w)
  forced_to-same (Some t) d w =
      succeeds-same sys _ _
      (released_at-same sys (unchanged s) (unchanged (seen s v)) t (given w) (unchanged-same sys s (seen s v) h))
  forced_to-same None d w = forced_in-same (has_room sys s d) d w

  pub fsnd_dtq-same : (d w : ℤ) → SameOutcome sys (fsnd_dtq sys s d w) (fsnd_dtq sys (seen s v) d w)
  fsnd_dtq-same d w =
      tested-same sys s (seen s v) h er.Id (numbered (length s.data_queues) d) _ _
      (λ i. refused_if-same sys s (seen s v) h (nat_eq (data_queue_config sys i).capacity 0) er.Iluse _ _
      (subst (λ (o : Option ℕ). SameOutcome sys (forced_to (first_waiting sys s (queue.Receivers i)) sys s i w)
      (forced_to o sys (seen s v) i w)) (first_waiting-same sys s (seen s v) (queue.Receivers i) h)
      (forced_to-same (first_waiting sys s (queue.Receivers i)) i w)))

  -- the first sender's word is appended to these, and the sender released
  taken-same : (t d : ℕ) (w : ℤ) (ws : List ℤ) → SameOutcome sys (oldest_taken (Some t) s d w ws)
      (oldest_taken (Some t) (seen s v) d w ws)
  taken-same t d w ws =
      let x = task_at s.tasks t in
      by_block (λ (y : TaskBlock). SameOutcome sys (oldest_taken (Some t) s d w ws)
      (gives w (released (unchanged (with_words (seen s v) d (ws ++ offered_word y.phase ∷ []))) t y (code er.Ok))))
      s.clock v.clock x (task_at v.tasks t) (blocks-at s.clock v.clock s.tasks v.tasks h.tasks t)
      (λ a k. gives-same sys w _ _
      (released-same sys _ _ t x a (code er.Ok) (unchanged-same sys _ _
      (words-same d (ws ++ offered_word x.phase ∷ [])))))

  oldest_taken-same : (o : Option ℕ) (d : ℕ) (w : ℤ) (ws : List ℤ)
      → SameOutcome sys (oldest_taken o s d w ws) (oldest_taken o (seen s v) d w ws)
  oldest_taken-same None d w ws = gives-same sys w _ _ (unchanged-same sys _ _ (words-same d ws))
  oldest_taken-same (Some t) d w ws = taken-same t d w ws

  sender_taken_from-same : (o : Option ℕ) (me : ℕ) (x : TaskBlock) (a : Option ℕ) (m : TimeLimit) (d : ℕ)
      → SameOutcome sys (sender_taken_from o s me x m d) (sender_taken_from o (seen s v) me
      (record x { deadline = a }) m d)
  sender_taken_from-same None me x a m d = waits_within-same sys s (seen s v) h m me x a (cause.Receiving d)
  sender_taken_from-same (Some t) me x a m d =
      let z = task_at s.tasks t in
      by_block (λ (y : TaskBlock). SameOutcome sys (gives (offered_word z.phase)
      (released (unchanged s) t z (code er.Ok)))
      (gives (offered_word y.phase) (released (unchanged (seen s v)) t y (code er.Ok))))
      s.clock v.clock z (task_at v.tasks t) (blocks-at s.clock v.clock s.tasks v.tasks h.tasks t)
      (λ b k. gives-same sys (offered_word z.phase) _ _
      (released-same sys _ _ t z b (code er.Ok) (unchanged-same sys s (seen s v) h)))

  word_received_from-same : (words : List ℤ) (me : ℕ) (x : TaskBlock) (a : Option ℕ) (m : TimeLimit) (d : ℕ)
      → SameOutcome sys (word_received_from words sys s me x m d)
      (word_received_from words sys (seen s v) me (record x { deadline = a }) m d)
  word_received_from-same [] me x a m d =
      subst (λ (o : Option ℕ). SameOutcome sys (sender_taken_from (first_waiting sys s (queue.Senders d)) s me x m d)
      (sender_taken_from o (seen s v) me (record x { deadline = a }) m d))
      (first_waiting-same sys s (seen s v) (queue.Senders d) h)
      (sender_taken_from-same (first_waiting sys s (queue.Senders d)) me x a m d)
  word_received_from-same (w ∷ ws) me x a m d =
      subst (λ (o : Option ℕ). SameOutcome sys (oldest_taken (first_waiting sys s (queue.Senders d)) s d w ws)
      (oldest_taken o (seen s v) d w ws)) (first_waiting-same sys s (seen s v) (queue.Senders d) h)
      (oldest_taken-same (first_waiting sys s (queue.Senders d)) d w ws)

  pub rcv_dtq-same : (me : ℕ) (x : TaskBlock) (a : Option ℕ) (m : TimeLimit) (d : ℤ)
      → SameOutcome sys (rcv_dtq sys s me x m d) (rcv_dtq sys (seen s v) me (record x { deadline = a }) m d)
  rcv_dtq-same me x a m d =
      tested-same sys s (seen s v) h er.Id (numbered (length s.data_queues) d) _ _
      (λ i. word_received_from-same (words_at s i) me x a m i)

  pub trcv_dtq-same : (me : ℕ) (x : TaskBlock) (a : Option ℕ) (d tmout : ℤ)
      → SameOutcome sys (trcv_dtq sys s me x d tmout) (trcv_dtq sys (seen s v) me (record x { deadline = a }) d tmout)
  trcv_dtq-same me x a d tmout =
      tested-same sys s (seen s v) h er.Id (numbered (length s.data_queues) d) _ _
      (λ i. tested-same sys s (seen s v) h er.Par (limit_of tmout) _ _
      (λ m. word_received_from-same (words_at s i) me x a m i))

  messages-same : (mailbox : ℕ) (messages : List ℕ)
      → SameProgress sys (unchanged (with_messages s mailbox messages))
      (unchanged (with_messages (seen s v) mailbox messages))
  messages-same mailbox messages =
      unchanged-same sys _ _ (alike-changed sys (λ z. with_messages z mailbox messages) (λ z. refl) (λ z. refl) s
      (seen s v) h)

  message_sent_to-same : (o : Option ℕ) (mailbox message : ℕ)
      → SameOutcome sys (message_sent_to o sys s mailbox message) (message_sent_to o sys (seen s v) mailbox message)
  message_sent_to-same (Some t) mailbox message =
      succeeds-same sys _ _
      (released_at-same sys (unchanged s) (unchanged (seen s v)) t (given (pos (message + 1)))
      (unchanged-same sys s (seen s v) h))
  message_sent_to-same None mailbox message =
      succeeds-same sys _ _ (messages-same mailbox
      (enqueued (mailbox_config sys mailbox).message_order (message_priority sys) message (messages_at s mailbox)))

  message_sent-same : (mailbox message : ℕ)
      → SameOutcome sys (message_sent sys s mailbox message) (message_sent sys (seen s v) mailbox message)
  message_sent-same mailbox message =
      refused_if-same sys s (seen s v) h (is_by_priority (mailbox_config sys mailbox).message_order && nat_lt
      (mailbox_config sys mailbox).most (message_priority sys message)) er.Par _ _
      (refused_if-same sys s (seen s v) h (is_queued message s.mailboxes) er.Obj _ _
      (subst (λ (o : Option ℕ). SameOutcome sys (message_sent_to (first_waiting sys s (queue.Mailbox mailbox)) sys s
      mailbox message)
      (message_sent_to o sys (seen s v) mailbox message)) (first_waiting-same sys s (seen s v)
      (queue.Mailbox mailbox) h)
      (message_sent_to-same (first_waiting sys s (queue.Mailbox mailbox)) mailbox message)))

  pub snd_mbx-same : (mailbox message : ℤ) → SameOutcome sys (snd_mbx sys s mailbox message)
      (snd_mbx sys (seen s v) mailbox message)
  snd_mbx-same mailbox message =
      tested-same sys s (seen s v) h er.Id (numbered (length s.mailboxes) mailbox) _ _
      (λ i. tested-same sys s (seen s v) h er.Id (numbered (length sys.messages) message) _ _
      (λ j. message_sent-same i j))

  message_taken_from-same : (messages : List ℕ) (me : ℕ) (x : TaskBlock) (a : Option ℕ) (m : TimeLimit) (mailbox : ℕ)
      → SameOutcome sys (message_taken_from messages s me x m mailbox)
      (message_taken_from messages (seen s v) me (record x { deadline = a }) m mailbox)
  message_taken_from-same [] me x a m mailbox = waits_within-same sys s (seen s v) h m me x a (cause.Mailbox mailbox)
  message_taken_from-same (message ∷ rest) me x a m mailbox = gives-same sys (pos (message + 1)) _ _
      (messages-same mailbox rest)

  pub rcv_mbx-same : (me : ℕ) (x : TaskBlock) (a : Option ℕ) (m : TimeLimit) (mailbox : ℤ)
      → SameOutcome sys (rcv_mbx s me x m mailbox) (rcv_mbx (seen s v) me (record x { deadline = a }) m mailbox)
  rcv_mbx-same me x a m mailbox =
      tested-same sys s (seen s v) h er.Id (numbered (length s.mailboxes) mailbox) _ _
      (λ i. message_taken_from-same (messages_at s i) me x a m i)

  pub trcv_mbx-same : (me : ℕ) (x : TaskBlock) (a : Option ℕ) (mailbox tmout : ℤ)
      → SameOutcome sys (trcv_mbx s me x mailbox tmout) (trcv_mbx (seen s v) me
      (record x { deadline = a }) mailbox tmout)
  trcv_mbx-same me x a mailbox tmout =
      tested-same sys s (seen s v) h er.Id (numbered (length s.mailboxes) mailbox) _ _
      (λ i. tested-same sys s (seen s v) h er.Par (limit_of tmout) _ _
      (λ m. message_taken_from-same (messages_at s i) me x a m i))
