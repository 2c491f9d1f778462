-- What the variables of a dump show of a frame.
use Rattle.std.specs.Prelude.{ℕ, ◌+◌, ◌*◌, List, Option, None, Some, Bool, true, false, not, ◌&&◌, nat_eq, nat_lt}
use Rattle.std.specs.Prelude.{length, get_or, slice_get, pos, map}
use Rattle.std.specs.List.{filter}
use Rattle.std.specs.Int.{cast_unsigned, w32}
use Rattle.fmp_base.specs.declared.events.Line.{Line}
use Rattle.fmp_base.specs.declared.events.Line.TheVariants as line
use Rattle.fmp_base.specs.declared.events.StateWord.{StateWord}
use Rattle.fmp_base.specs.declared.events.StateWord.TheVariants as word
use Rattle.fmp_base.specs.declared.events.TaskState.{TaskState}
use Rattle.fmp_base.specs.declared.states.Handler.{Handler}
use Rattle.fmp_base.specs.declared.states.Handler.TheVariants as handler
use Rattle.fmp_base.specs.declared.states.Lock.{Lock}
use Rattle.fmp_base.specs.declared.states.Lock.TheVariants as lock
use Rattle.fmp_base.specs.declared.states.Phase.{Phase}
use Rattle.fmp_base.specs.declared.states.Phase.TheVariants as phase
use Rattle.fmp_base.specs.declared.states.Processor.{Processor}
use Rattle.fmp_base.specs.declared.states.TaskBlock.{TaskBlock}
use Rattle.fmp_base.specs.declared.states.WaitCause.{WaitCause}
use Rattle.fmp_base.specs.declared.states.WaitCause.TheVariants as cause
use Rattle.fmp_base.specs.States.{idle}
use Rattle.fmp_why.specs.declared.obstacles.SpinWait.{SpinWait}
use Rattle.fmp_frames.specs.Frames.{FrameTable}
use Rattle.fmp_frames.specs.Refusals.{is_ok}
use Rattle.fmp_frames.specs.declared.variable.WaitedObject.{WaitedObject}
use Rattle.fmp_frames.specs.declared.variable.WaitedObject.TheVariants as object
use Rattle.fmp_frames.specs.declared.variable.Variable.{Variable}
use Rattle.fmp_frames.specs.declared.variable.Variable.TheVariants as show

abbrev pub one_if : Bool → ℕ
one_if true = 1
one_if false = 0

-- the number of what is at a place, 0 for none
abbrev pub number_or_zero : Option ℕ → ℕ
number_or_zero None = 0
number_or_zero (Some i) = i + 1

abbrev pub state_code : StateWord → ℕ
state_code word.Dormant = 0
state_code word.Ready = 1
state_code word.Running = 2
state_code word.Waiting = 3
state_code word.Suspended = 4
state_code word.WaitingSuspended = 5

-- 0 none, the number of a cyclic handler, 256 and the number of an interrupt
abbrev pub handler_code : Option Handler → ℕ
handler_code None = 0
handler_code (Some (handler.Cyclic c)) = c + 1
handler_code (Some (handler.Interrupt i)) = i + 257

-- 0 none, 1 the CPU lock, 256 and the number of a spin lock
abbrev pub lock_code : Lock → ℕ
lock_code lock.Free = 0
lock_code lock.Cpu = 1
lock_code (lock.Spin s) = s + 257

abbrev pub cause_code : WaitCause → ℕ
cause_code cause.Sleep = 1
cause_code cause.Delay = 2
cause_code (cause.Semaphore s) = 3
cause_code (cause.Flag g pattern mode) = 4
cause_code (cause.Sending d w) = 5
cause_code (cause.Receiving d) = 6
cause_code (cause.Mailbox m) = 7

-- what a task waits for: 0 no wait, 1 sleep, 2 delay, 3 semaphore, 4 eventflag, 5 sends to a data queue, 6 receives
-- from one, 7 mailbox
abbrev pub wait_code : Phase → ℕ
wait_code phase.Dormant = 0
wait_code phase.Ready = 0
wait_code (phase.Waiting c) = cause_code c

abbrev pub cause_object : WaitCause → ℕ
cause_object cause.Sleep = 0
cause_object cause.Delay = 0
cause_object (cause.Semaphore s) = s + 1
cause_object (cause.Flag g pattern mode) = g + 1
cause_object (cause.Sending d w) = d + 1
cause_object (cause.Receiving d) = d + 1
cause_object (cause.Mailbox m) = m + 1

-- the number of the object that a task waits for, 0 for none
abbrev pub wait_object : Phase → ℕ
wait_object phase.Dormant = 0
wait_object phase.Ready = 0
wait_object (phase.Waiting c) = cause_object c

abbrev pub is_for : WaitedObject → WaitCause → Bool
is_for (object.Semaphore i) (cause.Semaphore s) = nat_eq s i
is_for (object.Flag i) (cause.Flag g pattern mode) = nat_eq g i
is_for (object.DataQueue i) (cause.Sending d w) = nat_eq d i
is_for (object.DataQueue i) (cause.Receiving d) = nat_eq d i
is_for (object.Mailbox i) (cause.Mailbox m) = nat_eq m i
is_for x c = false

abbrev pub is_wait_for : WaitedObject → Phase → Bool
is_wait_for x phase.Dormant = false
is_wait_for x phase.Ready = false
is_wait_for x (phase.Waiting c) = is_for x c

-- a task waits for this object
abbrev pub waits_for : WaitedObject → TaskBlock → Bool
waits_for x block = is_wait_for x block.phase

abbrev pub is_cyclic : ℕ → Option Handler → Bool
is_cyclic i None = false
is_cyclic i (Some (handler.Cyclic c)) = nat_eq c i
is_cyclic i (Some (handler.Interrupt j)) = false

abbrev pub is_interrupt : ℕ → Option Handler → Bool
is_interrupt i None = false
is_interrupt i (Some (handler.Cyclic c)) = false
is_interrupt i (Some (handler.Interrupt j)) = nat_eq j i

abbrev pub runs_cyclic : ℕ → Processor → Bool
runs_cyclic i x = is_cyclic i x.handler

abbrev pub runs_interrupt : ℕ → Processor → Bool
runs_interrupt i x = is_interrupt i x.handler

-- of a handler, given how many processors run it: 0 idle, 1 pending, 2 runs, 3 runs and is pending again
abbrev pub handling : (running : ℕ) (is_pending : Bool) → ℕ
handling running is_pending = 2 * one_if (nat_lt 0 running) + one_if is_pending

-- 2 for a fault on processor p, 1 for a call there that was refused, else 0
abbrev pub refused_by : ℕ → Line → ℕ
refused_by p (line.Fault q who fault) = 2 * one_if (nat_eq q p)
refused_by p (line.Call q who c (Some reply)) = one_if (nat_eq q p && not (is_ok reply.code))
refused_by p l = 0

-- what the first line of an event says of it
abbrev pub refused : ℕ → Option Line → ℕ
refused p None = 0
refused p (Some l) = refused_by p l

-- of a missing task
abbrev pub unknown : TaskState
unknown = record { word = word.Dormant; processor = 0; priority = 0 }

abbrev pub phase_of : Option TaskBlock → Phase
phase_of None = phase.Dormant
phase_of (Some block) = block.phase

-- the lock that is spun for
abbrev pub lock_of : Option SpinWait → Option ℕ
lock_of None = None
lock_of (Some spin) = Some spin.lock

-- the value of a variable in a frame
abbrev pub value_of : FrameTable → Variable → ℕ
value_of f show.Clock = f.clock
value_of f (show.Run p) = number_or_zero (get_or f.processors p idle).run
value_of f (show.Handler p) = handler_code (get_or f.processors p idle).handler
value_of f (show.Lock p) = lock_code (get_or f.processors p idle).lock
value_of f (show.Spin p) = number_or_zero (lock_of (get_or f.spins p None))
value_of f (show.Dispatch p) = one_if (not (get_or f.processors p idle).dispatch_disabled)
value_of f (show.Refused p) = refused p (slice_get f.lines 0)
value_of f (show.State t) = state_code (get_or f.states t unknown).word
value_of f (show.Running t) = one_if (nat_eq (state_code (get_or f.states t unknown).word) 2)
value_of f (show.Processor t) = (get_or f.states t unknown).processor + 1
value_of f (show.Priority t) = (get_or f.states t unknown).priority
value_of f (show.WaitKind t) = wait_code (phase_of (slice_get f.blocks t))
value_of f (show.WaitObject t) = wait_object (phase_of (slice_get f.blocks t))
value_of f (show.Cyclic i) =
    handling (length (filter (runs_cyclic i) f.processors)) (get_or f.pending_cyclics i false)
value_of f (show.Interrupt i) =
    handling (length (filter (runs_interrupt i) f.processors)) (get_or f.pending_interrupts i false)
value_of f (show.Count s) = get_or f.semaphores s 0
value_of f (show.Pattern g) = get_or f.flags g 0
value_of f (show.DataQueue d) = get_or f.data_queues d 0
value_of f (show.Mailbox m) = get_or f.mailboxes m 0
value_of f (show.Word w) = cast_unsigned w32 (get_or f.shared_words w (pos 0))
value_of f (show.Waiting x) = length (filter (waits_for x) f.blocks)

-- the values of these variables, in order
abbrev pub values_of : FrameTable → List Variable → List ℕ
values_of f vs = map (value_of f) vs
