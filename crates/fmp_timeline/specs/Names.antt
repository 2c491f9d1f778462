-- The names that a picture has for tasks, handlers, objects and calls.
use Rattle.std.specs.Prelude.{ℕ, zero, suc, ◌+◌, ℤ, pos, List, [], ◌∷◌, ◌++◌, Option, None, Some, codes, decimal}
use Rattle.std.specs.Fmt.{signed_decimal}
use Rattle.std.specs.Option.{option_map_or}
use Rattle.fmp_base.specs.declared.calls.Call.{Call}
use Rattle.fmp_base.specs.declared.calls.Reply.{Reply}
use Rattle.fmp_base.specs.declared.catalogue.ObjectKind.{ObjectKind}
use Rattle.fmp_base.specs.declared.catalogue.ObjectKind.TheVariants as kind
use Rattle.fmp_base.specs.declared.states.Handler.{Handler}
use Rattle.fmp_base.specs.declared.states.Handler.TheVariants as handler
use Rattle.fmp_base.specs.declared.states.WaitCause.{WaitCause}
use Rattle.fmp_base.specs.declared.states.WaitCause.TheVariants as cause
use Rattle.fmp_base.specs.Names.{name_text}
use Rattle.fmp_base.specs.Systems.{SystemTables}
use Rattle.fmp_named.specs.Names.{name_at}
use Rattle.fmp_timeline.specs.declared.names.ArgumentTopic.{ArgumentTopic}
use Rattle.fmp_timeline.specs.declared.names.ArgumentTopic.TheVariants as topic

-- the kind of the object that a topic is, and its place
abbrev pub kind_of : ArgumentTopic → ObjectKind
kind_of (topic.Task i) = kind.Task
kind_of (topic.Semaphore i) = kind.Semaphore
kind_of (topic.Flag i) = kind.Flag
kind_of (topic.DataQueue i) = kind.DataQueue
kind_of (topic.Mailbox i) = kind.Mailbox
kind_of (topic.SharedWord i) = kind.SharedWord
kind_of (topic.SpinLock i) = kind.SpinLock
kind_of (topic.Cyclic i) = kind.Cyclic

abbrev pub place_of : ArgumentTopic → ℕ
place_of (topic.Task i) = i
place_of (topic.Semaphore i) = i
place_of (topic.Flag i) = i
place_of (topic.DataQueue i) = i
place_of (topic.Mailbox i) = i
place_of (topic.SharedWord i) = i
place_of (topic.SpinLock i) = i
place_of (topic.Cyclic i) = i

-- the name of an object; none where there is no such object
abbrev pub topic_text : SystemTables → ArgumentTopic → List ℕ
topic_text sys t = option_map_or (λ n. name_text n) (name_at sys (kind_of t) (place_of t)) []

-- the name of a handler: of an interrupt these words and its number
abbrev pub handler_text : SystemTables → Handler → (words : List ℕ) → List ℕ
handler_text sys (handler.Cyclic c) words = topic_text sys (topic.Cyclic c)
handler_text sys (handler.Interrupt i) words = words ++ decimal (i + 1)

-- the value that a call gives
abbrev pub given_text : Option ℤ → List ℕ
given_text None = []
given_text (Some value) = codes " = " ++ signed_decimal value

abbrev pub value_text : Option Reply → List ℕ
value_text None = []
value_text (Some reply) = given_text reply.value

-- what a task waits for
abbrev pub wait_text : SystemTables → WaitCause → List ℕ
wait_text sys cause.Sleep = codes "sleep"
wait_text sys cause.Delay = codes "delay"
wait_text sys (cause.Semaphore s) = topic_text sys (topic.Semaphore s)
wait_text sys (cause.Flag f pattern m) = topic_text sys (topic.Flag f)
wait_text sys (cause.Sending q word) = topic_text sys (topic.DataQueue q)
wait_text sys (cause.Receiving q) = topic_text sys (topic.DataQueue q)
wait_text sys (cause.Mailbox x) = topic_text sys (topic.Mailbox x)

-- the arrow before it, in UTF-8: to the right where the task sends, to the left where it receives
abbrev pub wait_arrow : WaitCause → List ℕ
wait_arrow (cause.Sending q word) = 226 ∷ 134 ∷ 146 ∷ []
wait_arrow (cause.Receiving q) = 226 ∷ 134 ∷ 144 ∷ []
wait_arrow (cause.Mailbox x) = 226 ∷ 134 ∷ 144 ∷ []
wait_arrow _ = []
