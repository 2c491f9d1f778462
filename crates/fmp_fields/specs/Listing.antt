-- What a list of fields has of each kind, while it is made.
use Rattle.std.specs.Prelude.{◌≡◌, ℕ, ◌<◌, ◌≤◌, [], ◌∷◌, List, Some, length, slice_get}
use Rattle.std.specs.List.{Contains}
use Rattle.fmp_base.specs.declared.bodies.HandlerStart.{HandlerStart}
use Rattle.fmp_base.specs.Meanings.{task_body}
use Rattle.fmp_base.specs.Systems.{SystemTables, data_queue_config, interrupt_config}
use Rattle.fmp_fields.specs.declared.field.What.{What}
use Rattle.fmp_fields.specs.declared.field.What.TheVariants as what
use Rattle.fmp_fields.specs.declared.room.Room.{Room}
use Rattle.fmp_fields.specs.Fields.{IsHandlerLocal, IsHandlerOperand, IsOperand, IsStartOn}
use Rattle.fmp_instructions.specs.Instructions.{BodyTables, depths_at}
use Rattle.fmp_reachable.specs.Rooms.{locals_at}
use Rattle.fmp_worlds.specs.Settled.{IsThere}

-- a body's locals, and its operands at each of its places, fit into this room
pub record HasRoom (bodies : List BodyTables) (body : ℕ) (room : Room) : Type 0 where
  pub locals : locals_at bodies body ≤ room.locals
  pub operands : (place depth : ℕ) → slice_get (depths_at bodies body) place ≡ Some depth → depth ≤ room.operands

-- so do those of each handler of processor p
abbrev pub HasHandlerRoom : SystemTables → List BodyTables → ℕ → Room → Type 0
HasHandlerRoom sys bodies p room = (start : HandlerStart) → IsStartOn sys p start → HasRoom bodies start.body room

-- each of the first fields is among the second
abbrev pub AreAmong : List What → List What → Type 0
AreAmong some all = (f : What) → Contains some f → Contains all f

-- the fields that a task has whatever its body is
abbrev pub task_parts : ℕ → List What
task_parts t =
    what.Phase t ∷ what.Object t ∷ what.Wanted t ∷ what.Suspended t ∷ what.Priority t ∷ what.Processor t
    ∷ what.Activations t ∷ what.NextProcessor t ∷ what.Wakeups t ∷ what.TicksLeft t ∷ what.Behind t ∷ what.Pc t ∷ []

-- the fields of a task with this body
pub record HasTask (bodies : List BodyTables) (t body : ℕ) (fields : List What) : Type 0 where
  pub parts : AreAmong (task_parts t) fields
  pub locals : (l : ℕ) → l < locals_at bodies body → Contains fields (what.Local t l)
  pub count : Contains fields (what.Operands t)
  pub operands : (i : ℕ) → IsOperand bodies body i → Contains fields (what.Operand t i)

abbrev pub HasTasks : SystemTables → List BodyTables → List What → Type 0
HasTasks sys bodies fields = (t : ℕ) → t < length sys.tasks → HasTask bodies t (task_body sys t) fields

-- the fields that a processor has whatever its handlers are
abbrev pub processor_parts : ℕ → List What
processor_parts p =
    what.Runs p ∷ what.Lock p ∷ what.DispatchDisabled p ∷ what.InterruptHandler p ∷ what.CyclicHandler p
    ∷ what.HandlerPc p ∷ []

-- the fields of a processor
pub record HasProcessor (sys : SystemTables) (bodies : List BodyTables) (p : ℕ) (fields : List What) : Type 0 where
  pub parts : AreAmong (processor_parts p) fields
  pub locals : (l : ℕ) → IsHandlerLocal sys bodies p l → Contains fields (what.HandlerLocal p l)
  pub count : Contains fields (what.HandlerOperands p)
  pub operands : (i : ℕ) → IsHandlerOperand sys bodies p i → Contains fields (what.HandlerOperand p i)

abbrev pub HasProcessors : SystemTables → List BodyTables → List What → Type 0
HasProcessors sys bodies fields = (p : ℕ) → p < sys.processors → HasProcessor sys bodies p fields

-- the fields of a data queue
pub record HasQueue (d capacity : ℕ) (fields : List What) : Type 0 where
  pub count : Contains fields (what.Words d)
  pub words : (i : ℕ) → i < capacity → Contains fields (what.Word d i)

abbrev pub HasQueues : SystemTables → List What → Type 0
HasQueues sys fields = (d : ℕ) → d < length sys.data_queues → HasQueue d (data_queue_config sys d).capacity fields

-- the fields of the objects at which tasks wait, and of the shared words
pub record HasObjects (sys : SystemTables) (fields : List What) : Type 0 where
  pub counts : (i : ℕ) → i < length sys.semaphores → Contains fields (what.Count i)
  pub patterns : (i : ℕ) → i < length sys.flags → Contains fields (what.Pattern i)
  pub queues : HasQueues sys fields
  pub first_messages : (i : ℕ) → i < length sys.mailboxes → Contains fields (what.FirstMessage i)
  pub messages_behind : (i : ℕ) → i < length sys.messages → Contains fields (what.MessageBehind i)
  pub shared_words : (i : ℕ) → i < length sys.shared_words → Contains fields (what.SharedWord i)

-- the fields of the cyclic handlers
pub record HasCyclics (sys : SystemTables) (fields : List What) : Type 0 where
  pub ticks : (c : ℕ) → c < length sys.cyclics → Contains fields (what.TicksToDue c)
  pub pending : (c : ℕ) → c < length sys.cyclics → Contains fields (what.PendingCyclic c)

-- the fields of the interrupts that have a handler
abbrev pub HasInterrupts : SystemTables → List What → Type 0
HasInterrupts sys fields = (i : ℕ) → IsThere (interrupt_config sys i) → Contains fields (what.PendingInterrupt i)
