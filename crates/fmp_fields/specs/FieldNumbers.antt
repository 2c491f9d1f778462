-- The numbers of fields: what a row tells of a world.
use Rattle.std.specs.Prelude.{ℕ, ◌%◌, [], pos, Bool, true, false, Option, Some, None, length, get_or, nat_lt, ◌&&◌}
use Rattle.fmp_base.specs.declared.states.TaskBlock.{TaskBlock}
use Rattle.fmp_base.specs.Queues.{first_of}
use Rattle.fmp_base.specs.Meanings.{World, context_at, context_in, kept_context}
use Rattle.fmp_base.specs.States.{KernelState, processor_at, task_at}
use Rattle.fmp_base.specs.Systems.{SystemTables}
use Rattle.fmp_base.specs.TaskCalls.{is_dormant}
use Rattle.fmp_base.specs.Ticks.{is_pending}
use Rattle.fmp_fields.specs.declared.field.What.{What}
use Rattle.fmp_fields.specs.declared.field.What.TheVariants as what
use Rattle.fmp_fields.specs.declared.owner.Owner.{Owner}
use Rattle.fmp_fields.specs.declared.owner.Owner.TheVariants as owner
use Rattle.fmp_instructions.specs.declared.instructions.MachineContext.{MachineContext}
use Rattle.fmp_reachable.specs.Behind.{mailbox_at, message_behind, task_behind}
use Rattle.fmp_reachable.specs.Numbers.{bit, cyclic_of, interrupt_of, lock_number, phase_kind, place, ticks_to}
use Rattle.fmp_reachable.specs.Numbers.{unsigned, wait_object, wait_value}
use Rattle.fmp_reachable.specs.Rows.{due_at}

-- whose body a field is of, if it is of one: a task's, or that of the handler of a processor
abbrev pub owner_of : What → Option Owner
owner_of (what.Pc t) = Some (owner.Task t)
owner_of (what.Local t l) = Some (owner.Task t)
owner_of (what.Operands t) = Some (owner.Task t)
owner_of (what.Operand t i) = Some (owner.Task t)
owner_of (what.HandlerPc p) = Some (owner.Handler p)
owner_of (what.HandlerLocal p l) = Some (owner.Handler p)
owner_of (what.HandlerOperands p) = Some (owner.Handler p)
owner_of (what.HandlerOperand p i) = Some (owner.Handler p)
owner_of _ = None

-- the task whose block tells a field, if one does
abbrev pub task_of : What → Option ℕ
task_of (what.Phase t) = Some t
task_of (what.Object t) = Some t
task_of (what.Wanted t) = Some t
task_of (what.Suspended t) = Some t
task_of (what.Priority t) = Some t
task_of (what.Processor t) = Some t
task_of (what.Activations t) = Some t
task_of (what.NextProcessor t) = Some t
task_of (what.Wakeups t) = Some t
task_of (what.TicksLeft t) = Some t
task_of _ = None

-- a field that this block tells at this clock
abbrev pub block_number : (clock : ℕ) → TaskBlock → What → ℕ
block_number clock x (what.Phase t) = phase_kind x.phase
block_number clock x (what.Object t) = place (wait_object x.phase)
block_number clock x (what.Wanted t) = wait_value x.phase
block_number clock x (what.Suspended t) = bit x.suspended
block_number clock x (what.Priority t) = x.priority
block_number clock x (what.Processor t) = x.processor
block_number clock x (what.Activations t) = x.activations
block_number clock x (what.NextProcessor t) = place x.next_processor
block_number clock x (what.Wakeups t) = x.wakeups
block_number clock x (what.TicksLeft t) = ticks_to clock x.deadline
block_number clock x _ = 0

abbrev pub unless : {A : Type 0} → Bool → Option A → Option A
unless true a = None
unless false a = a

-- the context of a body: of a task if it is not dormant, of a handler if one runs
abbrev pub owned_by : World MachineContext → Owner → Option MachineContext
owned_by w (owner.Task t) =
    unless (is_dormant (task_at w.state.tasks t).phase) (kept_context (context_at w.contexts.tasks t))
owned_by w (owner.Handler p) = kept_context (context_in (context_at w.contexts.handlers p))

-- a field of a body with this context
abbrev pub context_number : MachineContext → What → ℕ
context_number c (what.Pc t) = c.pc
context_number c (what.Local t l) = unsigned (get_or c.locals l (pos 0))
context_number c (what.Operands t) = c.count
context_number c (what.Operand t i) = unsigned (get_or c.operands i (pos 0))
context_number c (what.HandlerPc p) = c.pc
context_number c (what.HandlerLocal p l) = unsigned (get_or c.locals l (pos 0))
context_number c (what.HandlerOperands p) = c.count
context_number c (what.HandlerOperand p i) = unsigned (get_or c.operands i (pos 0))
context_number c _ = 0

-- the same, or 0 where there is none
abbrev pub body_number : Option MachineContext → What → ℕ
body_number None what = 0
body_number (Some c) what = context_number c what

-- a field that is of no body; `came` is how many interrupts came. The places of interrupts are below 32
abbrev pub state_number : SystemTables → KernelState → (came : ℕ) → What → ℕ
state_number sys s came what.Interrupts = came % 256
state_number sys s came (what.Phase t) = phase_kind (task_at s.tasks t).phase
state_number sys s came (what.Object t) = place (wait_object (task_at s.tasks t).phase)
state_number sys s came (what.Wanted t) = wait_value (task_at s.tasks t).phase
state_number sys s came (what.Suspended t) = bit (task_at s.tasks t).suspended
state_number sys s came (what.Priority t) = (task_at s.tasks t).priority
state_number sys s came (what.Processor t) = (task_at s.tasks t).processor
state_number sys s came (what.Activations t) = (task_at s.tasks t).activations
state_number sys s came (what.NextProcessor t) = place (task_at s.tasks t).next_processor
state_number sys s came (what.Wakeups t) = (task_at s.tasks t).wakeups
state_number sys s came (what.TicksLeft t) = ticks_to s.clock (task_at s.tasks t).deadline
state_number sys s came (what.Behind t) = place (task_behind sys s t)
state_number sys s came (what.Runs p) = place (processor_at s p).run
state_number sys s came (what.Lock p) = lock_number (processor_at s p).lock
state_number sys s came (what.DispatchDisabled p) = bit (processor_at s p).dispatch_disabled
state_number sys s came (what.InterruptHandler p) = place (interrupt_of (processor_at s p).handler)
state_number sys s came (what.CyclicHandler p) = place (cyclic_of (processor_at s p).handler)
state_number sys s came (what.Count i) = get_or s.semaphores i 0
state_number sys s came (what.Pattern f) = get_or s.flags f 0
state_number sys s came (what.Words d) = length (get_or s.data_queues d [])
state_number sys s came (what.Word d i) = unsigned (get_or (get_or s.data_queues d []) i (pos 0))
state_number sys s came (what.FirstMessage x) = place (first_of (mailbox_at s x))
state_number sys s came (what.MessageBehind g) = place (message_behind s g)
state_number sys s came (what.SharedWord i) = unsigned (get_or s.shared_words i (pos 0))
state_number sys s came (what.TicksToDue c) = ticks_to s.clock (due_at s c)
state_number sys s came (what.PendingCyclic c) = bit (is_pending s.pending_cyclics c)
state_number sys s came (what.PendingInterrupt i) = bit (nat_lt i 32 && is_pending s.pending_interrupts i)
state_number sys s came _ = 0

abbrev pub number_by : Option Owner → SystemTables → World MachineContext → (came : ℕ) → What → ℕ
number_by None sys w came what = state_number sys w.state came what
number_by (Some o) sys w came what = body_number (owned_by w o) what

-- the number of a field in a world to which this many interrupts came
abbrev pub number_of : SystemTables → World MachineContext → (came : ℕ) → What → ℕ
number_of sys w came what = number_by (owner_of what) sys w came what
