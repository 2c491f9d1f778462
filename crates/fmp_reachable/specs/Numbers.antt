-- The numbers of a row: each tells a part of a state.
use Rattle.std.specs.Prelude.{ℕ, suc, ◌+◌, ◌-◌, ◌*◌, ◌≤◌, ◌≡◌, ℤ, pos, negsuc, Option, Some, None, Bool, true, false}
use Rattle.fmp_base.specs.declared.states.FlagMode.TheVariants as modes
use Rattle.fmp_base.specs.declared.states.Handler.{Handler}
use Rattle.fmp_base.specs.declared.states.Handler.TheVariants as handler
use Rattle.fmp_base.specs.declared.states.Lock.{Lock}
use Rattle.fmp_base.specs.declared.states.Lock.TheVariants.{Free, Cpu, Spin}
use Rattle.fmp_base.specs.declared.states.Phase.{Phase}
use Rattle.fmp_base.specs.declared.states.Phase.TheVariants.{Dormant, Ready, Waiting}
use Rattle.fmp_base.specs.declared.states.Processor.{Processor}
use Rattle.fmp_base.specs.declared.states.TaskBlock.{TaskBlock}
use Rattle.fmp_base.specs.declared.states.WaitCause.{WaitCause}
use Rattle.fmp_base.specs.declared.states.WaitCause.TheVariants as cause

-- 1 for what is so
abbrev pub bit : Bool → ℕ
bit true = 1
bit false = 0

-- a place that may be missing
abbrev pub place : Option ℕ → ℕ
place None = 0
place (Some p) = suc p

-- a signed number as one without a sign: small numbers stay small
abbrev pub unsigned : ℤ → ℕ
unsigned (pos n) = n * 2
unsigned (negsuc n) = n * 2 + 1

-- the ticks from the clock up to a time, with 1 added; 0 if there is no time
abbrev pub ticks_to : ℕ → Option ℕ → ℕ
ticks_to clock None = 0
ticks_to clock (Some time) = (time - clock) + 1

abbrev pub wait_kind : WaitCause → ℕ
wait_kind cause.Sleep = 2
wait_kind cause.Delay = 3
wait_kind (cause.Semaphore s) = 4
wait_kind (cause.Flag f pattern modes.And) = 5
wait_kind (cause.Flag f pattern modes.Or) = 6
wait_kind (cause.Sending d word) = 7
wait_kind (cause.Receiving d) = 8
wait_kind (cause.Mailbox x) = 9

-- the number of a phase and, where it is a wait, of its kind
abbrev pub phase_kind : Phase → ℕ
phase_kind Dormant = 0
phase_kind Ready = 1
phase_kind (Waiting c) = wait_kind c

abbrev pub cause_object : WaitCause → Option ℕ
cause_object cause.Sleep = None
cause_object cause.Delay = None
cause_object (cause.Semaphore s) = Some s
cause_object (cause.Flag f pattern mode) = Some f
cause_object (cause.Sending d word) = Some d
cause_object (cause.Receiving d) = Some d
cause_object (cause.Mailbox x) = Some x

-- the place of the object of a wait
abbrev pub wait_object : Phase → Option ℕ
wait_object Dormant = None
wait_object Ready = None
wait_object (Waiting c) = cause_object c

abbrev pub cause_value : WaitCause → ℕ
cause_value (cause.Flag f pattern mode) = pattern
cause_value (cause.Sending d word) = unsigned word
cause_value _ = 0

-- the bits or the word of a wait
abbrev pub wait_value : Phase → ℕ
wait_value Dormant = 0
wait_value Ready = 0
wait_value (Waiting c) = cause_value c

abbrev pub lock_number : Lock → ℕ
lock_number Free = 0
lock_number Cpu = 1
lock_number (Spin l) = suc (suc l)

-- the place of the interrupt whose handler this is
abbrev pub interrupt_of : Option Handler → Option ℕ
interrupt_of (Some (handler.Interrupt i)) = Some i
interrupt_of _ = None

-- the place of the cyclic handler that this is
abbrev pub cyclic_of : Option Handler → Option ℕ
cyclic_of (Some (handler.Cyclic c)) = Some c
cyclic_of _ = None

-- two blocks at two clocks have the same numbers
pub record SameTaskNumbers (now other : ℕ) (x y : TaskBlock) : Type 0 where
  pub phase : phase_kind x.phase ≡ phase_kind y.phase
  pub object : place (wait_object x.phase) ≡ place (wait_object y.phase)
  pub wanted : wait_value x.phase ≡ wait_value y.phase
  pub suspended : bit x.suspended ≡ bit y.suspended
  pub priority : x.priority ≡ y.priority
  pub processor : x.processor ≡ y.processor
  pub activations : x.activations ≡ y.activations
  pub next_processor : place x.next_processor ≡ place y.next_processor
  pub wakeups : x.wakeups ≡ y.wakeups
  pub ticks_left : ticks_to now x.deadline ≡ ticks_to other y.deadline

-- two processors have the same numbers
pub record SameProcessorNumbers (x y : Processor) : Type 0 where
  pub runs : place x.run ≡ place y.run
  pub lock : lock_number x.lock ≡ lock_number y.lock
  pub dispatch_disabled : bit x.dispatch_disabled ≡ bit y.dispatch_disabled
  pub interrupt_handler : place (interrupt_of x.handler) ≡ place (interrupt_of y.handler)
  pub cyclic_handler : place (cyclic_of x.handler) ≡ place (cyclic_of y.handler)

-- a time, if there is one, is not before the clock
abbrev pub IsAhead : ℕ → Option ℕ → Type 0
IsAhead now None = Unit {0}
IsAhead now (Some time) = now ≤ time
