-- The fields of the states of a system and its code.
use Rattle.std.specs.Prelude.{◌≡◌, ℕ, ◌<◌, Bool, true, List, Some, length, slice_get}
use Rattle.std.specs.List.{Contains}
use Rattle.fmp_base.specs.declared.bodies.HandlerStart.{HandlerStart}
use Rattle.fmp_base.specs.declared.states.Handler.{Handler}
use Rattle.fmp_base.specs.Meanings.{handler_start, task_body}
use Rattle.fmp_base.specs.Systems.{SystemTables, data_queue_config, interrupt_config}
use Rattle.fmp_fields.specs.declared.field.What.{What}
use Rattle.fmp_fields.specs.declared.field.What.TheVariants as what
use Rattle.fmp_instructions.specs.Instructions.{BodyTables, depths_at}
use Rattle.fmp_reachable.specs.Rooms.{is_handler_of, locals_at}
use Rattle.fmp_worlds.specs.Settled.{IsThere}

-- somewhere in a body an operand stands at place i
pub record IsOperand (bodies : List BodyTables) (body i : ℕ) : Type 0 where
  pub place : ℕ
  pub depth : ℕ
  pub there : slice_get (depths_at bodies body) place ≡ Some depth
  pub below : i < depth

-- a handler of processor p starts so
pub record IsStartOn (sys : SystemTables) (p : ℕ) (start : HandlerStart) : Type 0 where
  pub handler : Handler
  pub own : is_handler_of sys p handler ≡ true
  pub starts : handler_start sys handler ≡ Some start

-- a handler of processor p has a local l
pub record IsHandlerLocal (sys : SystemTables) (bodies : List BodyTables) (p l : ℕ) : Type 0 where
  pub start : HandlerStart
  pub runs : IsStartOn sys p start
  pub below : l < locals_at bodies start.body

-- a handler of processor p has somewhere an operand at place i
pub record IsHandlerOperand (sys : SystemTables) (bodies : List BodyTables) (p i : ℕ) : Type 0 where
  pub start : HandlerStart
  pub runs : IsStartOn sys p start
  pub operand : IsOperand bodies start.body i

-- the fields of the states of a system, but for the number of interrupts: of each task, processor and object, of each
-- body what is within its room, and of each handler
abbrev pub IsField : SystemTables → List BodyTables → What → Type 0
IsField sys bodies what.Interrupts = ⊥
IsField sys bodies (what.Phase t) = t < length sys.tasks
IsField sys bodies (what.Object t) = t < length sys.tasks
IsField sys bodies (what.Wanted t) = t < length sys.tasks
IsField sys bodies (what.Suspended t) = t < length sys.tasks
IsField sys bodies (what.Priority t) = t < length sys.tasks
IsField sys bodies (what.Processor t) = t < length sys.tasks
IsField sys bodies (what.Activations t) = t < length sys.tasks
IsField sys bodies (what.NextProcessor t) = t < length sys.tasks
IsField sys bodies (what.Wakeups t) = t < length sys.tasks
IsField sys bodies (what.TicksLeft t) = t < length sys.tasks
IsField sys bodies (what.Behind t) = t < length sys.tasks
IsField sys bodies (what.Pc t) = t < length sys.tasks
IsField sys bodies (what.Local t l) = (t < length sys.tasks) × (l < locals_at bodies (task_body sys t))
IsField sys bodies (what.Operands t) = t < length sys.tasks
IsField sys bodies (what.Operand t i) = (t < length sys.tasks) × IsOperand bodies (task_body sys t) i
IsField sys bodies (what.Runs p) = p < sys.processors
IsField sys bodies (what.Lock p) = p < sys.processors
IsField sys bodies (what.DispatchDisabled p) = p < sys.processors
IsField sys bodies (what.InterruptHandler p) = p < sys.processors
IsField sys bodies (what.CyclicHandler p) = p < sys.processors
IsField sys bodies (what.HandlerPc p) = p < sys.processors
IsField sys bodies (what.HandlerLocal p l) = (p < sys.processors) × IsHandlerLocal sys bodies p l
IsField sys bodies (what.HandlerOperands p) = p < sys.processors
IsField sys bodies (what.HandlerOperand p i) = (p < sys.processors) × IsHandlerOperand sys bodies p i
IsField sys bodies (what.Count i) = i < length sys.semaphores
IsField sys bodies (what.Pattern f) = f < length sys.flags
IsField sys bodies (what.Words d) = d < length sys.data_queues
IsField sys bodies (what.Word d i) = (d < length sys.data_queues) × (i < (data_queue_config sys d).capacity)
IsField sys bodies (what.FirstMessage x) = x < length sys.mailboxes
IsField sys bodies (what.MessageBehind g) = g < length sys.messages
IsField sys bodies (what.SharedWord i) = i < length sys.shared_words
IsField sys bodies (what.TicksToDue c) = c < length sys.cyclics
IsField sys bodies (what.PendingCyclic c) = c < length sys.cyclics
IsField sys bodies (what.PendingInterrupt i) = IsThere (interrupt_config sys i)

-- each field of the states is among these, and the number of interrupts where it is limited
pub record AreAllFields (sys : SystemTables) (bodies : List BodyTables) (limited : Bool)
    (fields : List What) : Type 0 where
  pub each : (f : What) → IsField sys bodies f → Contains fields f
  pub interrupts : limited ≡ true → Contains fields what.Interrupts
