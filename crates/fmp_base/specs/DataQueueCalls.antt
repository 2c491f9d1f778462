-- The service calls on data queues (uITRON 4.0, section 4.4.3).
use Rattle.std.specs.Prelude.{ℕ, ℤ, pos, List, [], ◌∷◌, ◌++◌, Option, Some, None, Bool, true, false, length, nat_eq}
use Rattle.std.specs.Prelude.{nat_lt, slice_set, get_or}
use Rattle.fmp_base.specs.declared.codes.Er.TheVariants as er
use Rattle.fmp_base.specs.declared.states.Phase.{Phase}
use Rattle.fmp_base.specs.declared.states.Phase.TheVariants.{Dormant, Ready, Waiting}
use Rattle.fmp_base.specs.declared.states.TaskBlock.{TaskBlock}
use Rattle.fmp_base.specs.declared.states.TimeLimit.{TimeLimit}
use Rattle.fmp_base.specs.declared.states.WaitCause.{WaitCause}
use Rattle.fmp_base.specs.declared.states.WaitCause.TheVariants as cause
use Rattle.fmp_base.specs.declared.states.WaitQueue.TheVariants as queue
use Rattle.fmp_base.specs.Changes.{released}
use Rattle.fmp_base.specs.Outcomes.{CallOutcome, code, given, succeeds, succeeds_in, gives, waits_within, limit_of}
use Rattle.fmp_base.specs.Outcomes.{numbered, tested, refused_if}
use Rattle.fmp_base.specs.Queues.{first_waiting}
use Rattle.fmp_base.specs.States.{KernelState, unchanged, task_at}
use Rattle.fmp_base.specs.Systems.{SystemTables, data_queue_config}

-- the words of data queue d, the oldest first
abbrev pub words_at : KernelState → ℕ → List ℤ
words_at s d = get_or s.data_queues d []

abbrev pub with_words : KernelState → ℕ → List ℤ → KernelState
with_words s d words = record s { data_queues = slice_set s.data_queues d words }

abbrev pub has_room : SystemTables → KernelState → ℕ → Bool
has_room sys s d = nat_lt (length (words_at s d)) (data_queue_config sys d).capacity

abbrev pub appended : KernelState → ℕ → ℤ → KernelState
appended s d v = with_words s d (words_at s d ++ v ∷ [])

-- with no receiver: the word is appended if there is room, else the caller waits with it
abbrev pub queued_by : Bool → KernelState → ℕ → TaskBlock → TimeLimit → ℕ → ℤ → CallOutcome
queued_by true s me x limit d v = succeeds_in (appended s d v)
queued_by false s me x limit d v = waits_within limit s me x (cause.Sending d v)

-- the first receiver, if any, is released with the word
abbrev pub word_sent_to : Option ℕ → SystemTables → KernelState → ℕ → TaskBlock → TimeLimit → ℕ → ℤ → CallOutcome
word_sent_to (Some t) sys s me x limit d v = succeeds (released (unchanged s) t (task_at s.tasks t) (given v))
word_sent_to None sys s me x limit d v = queued_by (has_room sys s d) s me x limit d v

abbrev pub word_sent : SystemTables → KernelState → ℕ → TaskBlock → ℤ → TimeLimit → ℕ → CallOutcome
word_sent sys s me x v limit d = word_sent_to (first_waiting sys s (queue.Receivers d)) sys s me x limit d v

-- snd_dtq and psnd_dtq; ipsnd_dtq never waits, so its caller is not looked at
abbrev pub snd_dtq : SystemTables → KernelState → ℕ → TaskBlock → TimeLimit → ℤ → ℤ → CallOutcome
snd_dtq sys s me x limit d v = tested s er.Id (numbered (length s.data_queues) d) (word_sent sys s me x v limit)

abbrev pub tsnd_dtq : SystemTables → KernelState → ℕ → TaskBlock → ℤ → ℤ → ℤ → CallOutcome
tsnd_dtq sys s me x d v tmout =
    tested s er.Id (numbered (length s.data_queues) d)
    (λ i. tested s er.Par (limit_of tmout) (λ limit. word_sent sys s me x v limit i))

abbrev pub without_oldest : List ℤ → List ℤ
without_oldest [] = []
without_oldest (w ∷ ws) = ws

-- with no receiver: a full queue drops its oldest word, and the word is appended
abbrev pub forced_in : Bool → KernelState → ℕ → ℤ → CallOutcome
forced_in true s d v = succeeds_in (appended s d v)
forced_in false s d v = succeeds_in (with_words s d (without_oldest (words_at s d) ++ v ∷ []))

abbrev pub forced_to : Option ℕ → SystemTables → KernelState → ℕ → ℤ → CallOutcome
forced_to (Some t) sys s d v = succeeds (released (unchanged s) t (task_at s.tasks t) (given v))
forced_to None sys s d v = forced_in (has_room sys s d) s d v

-- fsnd_dtq and ifsnd_dtq
abbrev pub fsnd_dtq : SystemTables → KernelState → ℤ → ℤ → CallOutcome
fsnd_dtq sys s d v =
    tested s er.Id (numbered (length s.data_queues) d) (λ i. refused_if (nat_eq (data_queue_config sys i).capacity 0) s
    er.Iluse (forced_to (first_waiting sys s (queue.Receivers i)) sys s i v))

abbrev pub word_of_cause : WaitCause → ℤ
word_of_cause (cause.Sending d v) = v
word_of_cause _ = pos 0

-- the word with which a task of this phase waits
abbrev pub offered_word : Phase → ℤ
offered_word Dormant = pos 0
offered_word Ready = pos 0
offered_word (Waiting c) = word_of_cause c

-- the oldest word is given; the first sender's word takes the room, and the sender is released
abbrev pub oldest_taken : Option ℕ → KernelState → ℕ → ℤ → List ℤ → CallOutcome
oldest_taken None s d w ws = gives w (unchanged (with_words s d ws))
oldest_taken (Some t) s d w ws =
    let x = task_at s.tasks t in
    gives w (released (unchanged (with_words s d (ws ++ offered_word x.phase ∷ []))) t x (code er.Ok))

-- with no word: the first sender's is given and the sender released, else the caller waits
abbrev pub sender_taken_from : Option ℕ → KernelState → ℕ → TaskBlock → TimeLimit → ℕ → CallOutcome
sender_taken_from None s me x limit d = waits_within limit s me x (cause.Receiving d)
sender_taken_from (Some t) s me x limit d =
    let y = task_at s.tasks t in
    gives (offered_word y.phase) (released (unchanged s) t y (code er.Ok))

abbrev pub word_received_from : List ℤ → SystemTables → KernelState → ℕ → TaskBlock → TimeLimit → ℕ → CallOutcome
word_received_from [] sys s me x limit d = sender_taken_from (first_waiting sys s (queue.Senders d)) s me x limit d
word_received_from (w ∷ ws) sys s me x limit d = oldest_taken (first_waiting sys s (queue.Senders d)) s d w ws

abbrev pub word_received : SystemTables → KernelState → ℕ → TaskBlock → TimeLimit → ℕ → CallOutcome
word_received sys s me x limit d = word_received_from (words_at s d) sys s me x limit d

-- rcv_dtq and prcv_dtq
abbrev pub rcv_dtq : SystemTables → KernelState → ℕ → TaskBlock → TimeLimit → ℤ → CallOutcome
rcv_dtq sys s me x limit d = tested s er.Id (numbered (length s.data_queues) d) (word_received sys s me x limit)

abbrev pub trcv_dtq : SystemTables → KernelState → ℕ → TaskBlock → ℤ → ℤ → CallOutcome
trcv_dtq sys s me x d tmout =
    tested s er.Id (numbered (length s.data_queues) d)
    (λ i. tested s er.Par (limit_of tmout) (λ limit. word_received sys s me x limit i))
