-- The names of the fields of a state, in the words of the two texts.
use Rattle.std.specs.Prelude.{ℕ, ◌+◌, List, [], ◌++◌, Option, Some, None, codes, decimal, option_and_then, option_map}
use Rattle.std.specs.Prelude.{slice_get, nat_eq, ◌-◌, if◌then◌else◌}
use Rattle.fmp_base.specs.Names.{name_text}
use Rattle.fmp_base.specs.Systems.{SystemTables}
use Rattle.fmp_base.specs.declared.names.Name.{Name}
use Rattle.fmp_base.specs.declared.systems.Entry.{Entry}
use Rattle.fmp_base.specs.declared.systems.Entry.TheVariants as entry
use Rattle.fmp_base.specs.declared.systems.TaskConfig.{TaskConfig}
use Rattle.fmp_fields.specs.declared.field.What.{What}
use Rattle.fmp_fields.specs.declared.field.What.TheVariants as what
use Rattle.fmp_searching.specs.declared.naming.LocalNames.{LocalNames}
use Rattle.fmp_searching.specs.declared.naming.LocalPlace.{LocalPlace}

-- a name and a blank
abbrev pub before : Option Name → List ℕ
before (Some n) = name_text n ++ codes " "
before None = []

-- a text and the number, from 1, of what stands at a place
unfoldable pub numbered_text : List ℕ → (place : ℕ) → List ℕ
numbered_text text place = text ++ decimal (place + 1)

-- the local at a place of the body of an entry, but `exinf`, which stands at place 0
abbrev pub local_at : LocalNames → Entry → (place : ℕ) → Option LocalPlace
local_at names (entry.Body body) place =
    if nat_eq place 0
    then None
    else option_and_then (λ places. slice_get places.items (place - 1)) (slice_get names.bodies.items body)
local_at names (entry.Named n) place = None

abbrev pub index_text : Option ℕ → List ℕ
index_text None = []
index_text (Some index) = codes "[" ++ (decimal index ++ codes "]")

-- the name of a local, with its index where it is of an array
abbrev pub local_name : Option LocalPlace → List ℕ
local_name None = codes "exinf"
local_name (Some local) = name_text local.name ++ index_text local.index

abbrev pub task_word : What → List ℕ
task_word (what.Phase t) = codes "task state"
task_word (what.Object t) = codes "object of its wait"
task_word (what.Wanted t) = codes "bits or word of its wait"
task_word (what.Suspended t) = codes "being suspended"
task_word (what.Priority t) = codes "current priority"
task_word (what.Processor t) = codes "assigned processor"
task_word (what.NextProcessor t) = codes "processor of its next start"
task_word (what.Activations t) = codes "activations"
task_word (what.Wakeups t) = codes "wakeups"
task_word (what.TicksLeft t) = codes "ticks left"
task_word (what.Behind t) = codes "place in its queue"
task_word (what.Operands t) = codes "operand count"
task_word _ = codes "place in its body"

-- a field of a task
abbrev pub task_meant : LocalNames → Entry → What → List ℕ
task_meant names e (what.Local t place) = local_name (local_at names e place)
task_meant names e (what.Operand t place) = numbered_text (codes "operand ") place
task_meant names e w = task_word w

abbrev pub task_field : LocalNames → Option TaskConfig → What → List ℕ
task_field names None w = codes "task"
task_field names (Some config) w = before (Some config.name) ++ task_meant names config.entry w

abbrev pub processor_word : What → List ℕ
processor_word (what.Runs p) = codes "task"
processor_word (what.Lock p) = codes "lock"
processor_word (what.DispatchDisabled p) = codes "dispatching"
processor_word (what.InterruptHandler p) = codes "interrupt handler"
processor_word (what.CyclicHandler p) = codes "cyclic handler"
processor_word (what.HandlerOperands p) = codes "operand count of its handler"
processor_word _ = codes "place in its handler"

abbrev pub processor_meant : What → List ℕ
processor_meant (what.HandlerLocal p place) = numbered_text (codes "local ") place ++ codes " of its handler"
processor_meant (what.HandlerOperand p place) = numbered_text (codes "operand ") place ++ codes " of its handler"
processor_meant w = processor_word w

unfoldable pub processor_field : (p : ℕ) → What → List ℕ
processor_field p w = numbered_text (codes "processor ") p ++ (codes " " ++ processor_meant w)

-- the name of the object that a field is of
abbrev pub object_name : SystemTables → What → Option Name
object_name sys (what.Count s) = option_map (λ x. x.name) (slice_get sys.semaphores s)
object_name sys (what.Pattern f) = option_map (λ x. x.name) (slice_get sys.flags f)
object_name sys (what.Words d) = option_map (λ x. x.name) (slice_get sys.data_queues d)
object_name sys (what.Word d place) = option_map (λ x. x.name) (slice_get sys.data_queues d)
object_name sys (what.FirstMessage m) = option_map (λ x. x.name) (slice_get sys.mailboxes m)
object_name sys (what.MessageBehind m) = option_map (λ x. x.name) (slice_get sys.messages m)
object_name sys (what.SharedWord w) = option_map (λ x. x.name) (slice_get sys.shared_words w)
object_name sys (what.TicksToDue c) = option_map (λ x. x.name) (slice_get sys.cyclics c)
object_name sys (what.PendingCyclic c) = option_map (λ x. x.name) (slice_get sys.cyclics c)
object_name sys w = None

abbrev pub object_word : What → List ℕ
object_word (what.Count s) = codes "count"
object_word (what.Pattern f) = codes "pattern"
object_word (what.Words d) = codes "words"
object_word (what.FirstMessage m) = codes "first message"
object_word (what.MessageBehind m) = codes "place in its mailbox"
object_word (what.SharedWord w) = codes "value"
object_word (what.TicksToDue c) = codes "next start"
object_word (what.PendingCyclic c) = codes "pending start"
object_word _ = codes "interrupts (--ints)"

abbrev pub object_meant : What → List ℕ
object_meant (what.Word d place) = numbered_text (codes "word ") place
object_meant w = object_word w

abbrev pub object_field : SystemTables → What → List ℕ
object_field sys (what.PendingInterrupt i) = numbered_text (codes "pending interrupt ") i
object_field sys w = before (object_name sys w) ++ object_meant w

-- the task that a field is of, and the processor
abbrev pub task_of : What → Option ℕ
task_of (what.Phase t) = Some t
task_of (what.Object t) = Some t
task_of (what.Wanted t) = Some t
task_of (what.Suspended t) = Some t
task_of (what.Priority t) = Some t
task_of (what.Processor t) = Some t
task_of (what.Activations t) = Some t
task_of (what.NextProcessor t) = Some t
task_of (what.Wakeups t) = Some t
task_of (what.TicksLeft t) = Some t
task_of (what.Behind t) = Some t
task_of (what.Pc t) = Some t
task_of (what.Local t place) = Some t
task_of (what.Operands t) = Some t
task_of (what.Operand t place) = Some t
task_of w = None

abbrev pub processor_of : What → Option ℕ
processor_of (what.Runs p) = Some p
processor_of (what.Lock p) = Some p
processor_of (what.DispatchDisabled p) = Some p
processor_of (what.InterruptHandler p) = Some p
processor_of (what.CyclicHandler p) = Some p
processor_of (what.HandlerPc p) = Some p
processor_of (what.HandlerLocal p place) = Some p
processor_of (what.HandlerOperands p) = Some p
processor_of (what.HandlerOperand p place) = Some p
processor_of w = None

abbrev pub other_field : SystemTables → Option ℕ → What → List ℕ
other_field sys (Some p) w = processor_field p w
other_field sys None w = object_field sys w

abbrev pub field_by : SystemTables → LocalNames → (task : Option ℕ) → What → List ℕ
field_by sys names (Some t) w = task_field names (slice_get sys.tasks t) w
field_by sys names None w = other_field sys (processor_of w) w

-- the name of a field, as `CONTROL samples`
abbrev pub field_name : SystemTables → LocalNames → What → List ℕ
field_name sys names w = field_by sys names (task_of w) w
