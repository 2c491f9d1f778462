-- The service calls on mailboxes (uITRON 4.0, section 4.4.4). A message is its number and its priority.
use Rattle.std.specs.Prelude.{ℕ, ◌+◌, ℤ, pos, List, [], ◌∷◌, ◌++◌, Option, Some, None, Bool, false, ◌&&◌, ◌||◌, length}
use Rattle.std.specs.Prelude.{nat_eq, nat_lt, slice_set, get_or, if◌then◌else◌}
use Rattle.fmp_base.specs.declared.codes.Er.TheVariants as er
use Rattle.fmp_base.specs.declared.states.TaskBlock.{TaskBlock}
use Rattle.fmp_base.specs.declared.states.TimeLimit.{TimeLimit}
use Rattle.fmp_base.specs.declared.states.WaitCause.TheVariants as cause
use Rattle.fmp_base.specs.declared.states.WaitQueue.TheVariants as queue
use Rattle.fmp_base.specs.declared.systems.QueueOrder.{QueueOrder}
use Rattle.fmp_base.specs.declared.systems.QueueOrder.TheVariants.{Fifo, Priority}
use Rattle.fmp_base.specs.Changes.{released}
use Rattle.fmp_base.specs.Outcomes.{CallOutcome, given, succeeds, succeeds_in, gives, waits_within, limit_of, numbered}
use Rattle.fmp_base.specs.Outcomes.{tested, refused_if}
use Rattle.fmp_base.specs.Queues.{first_waiting, is_by_priority}
use Rattle.fmp_base.specs.States.{KernelState, unchanged, task_at}
use Rattle.fmp_base.specs.Systems.{SystemTables, mailbox_config, message_config}

-- the messages in a mailbox, the first one first
abbrev pub messages_at : KernelState → ℕ → List ℕ
messages_at s mailbox = get_or s.mailboxes mailbox []

abbrev pub with_messages : KernelState → ℕ → List ℕ → KernelState
with_messages s mailbox messages = record s { mailboxes = slice_set s.mailboxes mailbox messages }

abbrev pub is_among : ℕ → List ℕ → Bool
is_among message [] = false
is_among message (other ∷ others) = nat_eq message other || is_among message others

-- whether a message is queued in some mailbox
abbrev pub is_queued : ℕ → List (List ℕ) → Bool
is_queued message [] = false
is_queued message (messages ∷ rest) = is_among message messages || is_queued message rest

-- a message behind those of its priority or more urgent, where f gives priorities
abbrev pub behind_equals : (ℕ → ℕ) → ℕ → List ℕ → List ℕ
behind_equals f message [] = message ∷ []
behind_equals f message (other ∷ others) =
    if nat_lt (f message) (f other) then message ∷ other ∷ others else other ∷ behind_equals f message others

abbrev pub enqueued : QueueOrder → (ℕ → ℕ) → ℕ → List ℕ → List ℕ
enqueued Fifo f message messages = messages ++ message ∷ []
enqueued Priority f message messages = behind_equals f message messages

abbrev pub message_priority : SystemTables → ℕ → ℕ
message_priority sys message = (message_config sys message).priority

-- the first waiting task, if any, is released with the message; else the message is queued
abbrev pub message_sent_to : Option ℕ → SystemTables → KernelState → (mailbox message : ℕ) → CallOutcome
message_sent_to (Some t) sys s mailbox message =
    succeeds (released (unchanged s) t (task_at s.tasks t) (given (pos (message + 1))))
message_sent_to None sys s mailbox message =
    succeeds_in (with_messages s mailbox
    (enqueued (mailbox_config sys mailbox).message_order (message_priority sys) message (messages_at s mailbox)))

-- messages that queue by priority have one up to the mailbox's limit; a message is queued once
abbrev pub message_sent : SystemTables → KernelState → (mailbox message : ℕ) → CallOutcome
message_sent sys s mailbox message =
    refused_if (is_by_priority (mailbox_config sys mailbox).message_order && nat_lt (mailbox_config sys mailbox).most
    (message_priority sys message)) s er.Par (refused_if (is_queued message s.mailboxes) s er.Obj
    (message_sent_to (first_waiting sys s (queue.Mailbox mailbox)) sys s mailbox message))

abbrev pub snd_mbx : SystemTables → KernelState → ℤ → ℤ → CallOutcome
snd_mbx sys s mailbox message =
    tested s er.Id (numbered (length s.mailboxes) mailbox)
    (λ i. tested s er.Id (numbered (length sys.messages) message) (message_sent sys s i))

-- the first message is taken, else the caller waits
abbrev pub message_taken_from : List ℕ → KernelState → ℕ → TaskBlock → TimeLimit → ℕ → CallOutcome
message_taken_from [] s me x limit mailbox = waits_within limit s me x (cause.Mailbox mailbox)
message_taken_from (message ∷ rest) s me x limit mailbox =
    gives (pos (message + 1)) (unchanged (with_messages s mailbox rest))

abbrev pub message_received : KernelState → ℕ → TaskBlock → TimeLimit → ℕ → CallOutcome
message_received s me x limit mailbox = message_taken_from (messages_at s mailbox) s me x limit mailbox

-- rcv_mbx and prcv_mbx
abbrev pub rcv_mbx : KernelState → ℕ → TaskBlock → TimeLimit → ℤ → CallOutcome
rcv_mbx s me x limit mailbox = tested s er.Id (numbered (length s.mailboxes) mailbox) (message_received s me x limit)

abbrev pub trcv_mbx : KernelState → ℕ → TaskBlock → ℤ → ℤ → CallOutcome
trcv_mbx s me x mailbox tmout =
    tested s er.Id (numbered (length s.mailboxes) mailbox)
    (λ i. tested s er.Par (limit_of tmout) (λ limit. message_received s me x limit i))
