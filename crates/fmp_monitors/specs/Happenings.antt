-- What a line of a trace tells.
use Rattle.std.specs.Prelude.{ℕ, ◌+◌, ℤ, pos, negsuc, Option, Some, None, Bool, true, false, not, ◌&&◌, ◌||◌, if◌then◌else◌}
use Rattle.std.specs.Prelude.{nat_eq}
use Rattle.fmp_base.specs.declared.bodies.Fault.{Fault}
use Rattle.fmp_base.specs.declared.bodies.Fault.TheVariants.{Overflow, Division, Index}
use Rattle.fmp_base.specs.declared.calls.Call.{Call}
use Rattle.fmp_base.specs.declared.calls.Call.TheVariants as call
use Rattle.fmp_base.specs.declared.calls.Reply.{Reply}
use Rattle.fmp_base.specs.declared.codes.Er.{Er}
use Rattle.fmp_base.specs.declared.codes.Er.TheVariants as er
use Rattle.fmp_base.specs.declared.events.Line.{Line}
use Rattle.fmp_base.specs.declared.events.Line.TheVariants as line
use Rattle.fmp_base.specs.declared.events.StateWord.{StateWord}
use Rattle.fmp_base.specs.declared.events.StateWord.TheVariants as word
use Rattle.fmp_base.specs.declared.states.Caller.{Caller}
use Rattle.fmp_base.specs.declared.states.Caller.TheVariants as caller
use Rattle.fmp_base.specs.declared.states.Handler.TheVariants as handler
use Rattle.fmp_base.specs.Codes.{code_of}
use Rattle.fmp_monitors.specs.declared.happening.ExpectedActor.{ExpectedActor}
use Rattle.fmp_monitors.specs.declared.happening.ExpectedActor.TheVariants as actor
use Rattle.fmp_monitors.specs.declared.happening.ExpectedDeed.{ExpectedDeed}
use Rattle.fmp_monitors.specs.declared.happening.ExpectedDeed.TheVariants as deed
use Rattle.fmp_monitors.specs.declared.happening.ExpectedResponse.{ExpectedResponse}
use Rattle.fmp_monitors.specs.declared.happening.ExpectedResponse.TheVariants as response
use Rattle.fmp_monitors.specs.declared.happening.ExpectedTrigger.{ExpectedTrigger}
use Rattle.fmp_monitors.specs.declared.happening.ExpectedTrigger.TheVariants as trigger
use Rattle.fmp_monitors.specs.declared.happening.Happening.{Happening}

abbrev pub is_same : ℤ → ℤ → Bool
is_same (pos a) (pos b) = nat_eq a b
is_same (negsuc a) (negsuc b) = nat_eq a b
is_same (pos a) (negsuc b) = false
is_same (negsuc a) (pos b) = false

abbrev pub is_code : Er → Er → Bool
is_code a b = is_same (code_of a) (code_of b)

abbrev pub is_fault : Fault → Fault → Bool
is_fault Overflow Overflow = true
is_fault Division Division = true
is_fault Index Index = true
is_fault _ _ = false

abbrev pub is_actor : ExpectedActor → Caller → Bool
is_actor (actor.Task t) (caller.Task other) = nat_eq other t
is_actor (actor.Cyclic c) (caller.Handler (handler.Cyclic other)) = nat_eq other c
is_actor (actor.Interrupt i) (caller.Handler (handler.Interrupt other)) = nat_eq other i
is_actor _ _ = false

-- whoever it is, or this one
abbrev pub is_by : Option ExpectedActor → Caller → Bool
is_by None who = true
is_by (Some a) who = is_actor a who

abbrev pub has_code : Er → Option Reply → Bool
has_code code None = false
has_code code (Some reply) = is_code reply.code code

abbrev pub puts : ℤ → Call → Bool
puts value (call.Put printed) = is_same printed value
puts value _ = false

-- a call with this reply, or none while its caller waits, is this deed
abbrev pub is_called : ExpectedDeed → Call → Option Reply → Bool
is_called (deed.Answer code) made reply = has_code code reply
is_called (deed.Put value) made reply = puts value made
is_called (deed.Stop f) made reply = false

-- the end of a wait with this reply is this deed
abbrev pub is_released : ExpectedDeed → Reply → Bool
is_released (deed.Answer code) reply = is_code reply.code code
is_released (deed.Put value) reply = false
is_released (deed.Stop f) reply = false

abbrev pub is_stopped : ExpectedDeed → Fault → Bool
is_stopped (deed.Stop f) told = is_fault told f
is_stopped (deed.Answer code) told = false
is_stopped (deed.Put value) told = false

-- a line tells this
abbrev pub tells : Happening → Line → Bool
tells h (line.Call p who made reply) = is_called h.deed made reply && is_by h.by who
tells h (line.Gets p t reply) = is_released h.deed reply && is_by h.by (caller.Task t)
tells h (line.Fault p who told) = is_stopped h.deed told && is_by h.by who
tells h _ = false

abbrev pub is_task_of : ExpectedActor → Option ℕ → Bool
is_task_of a None = false
is_task_of a (Some t) = is_actor a (caller.Task t)

-- a line tells that this actor runs: it calls, ends or stops with a fault, it begins, or a processor goes on with it
abbrev pub runs : ExpectedActor → Line → Bool
runs a (line.Call p who made reply) = is_actor a who
runs a (line.End p who) = is_actor a who
runs a (line.Fault p who told) = is_actor a who
runs a (line.Begins p h) = is_actor a (caller.Handler h)
runs a (line.Runs p t) = is_task_of a t
runs a _ = false

abbrev pub is_interrupt : ℕ → Line → Bool
is_interrupt i (line.Int other) = nat_eq other i
is_interrupt i _ = false

abbrev pub is_tick : Line → Bool
is_tick (line.Tick clock) = true
is_tick _ = false

-- it tells this, if something is given
abbrev pub tells_any : Option Happening → Line → Bool
tells_any None l = false
tells_any (Some h) l = tells h l

-- a line tells the response, and the trigger, of a bounded wait
abbrev pub answers : ExpectedResponse → Line → Bool
answers (response.Runs a) l = runs a l
answers (response.Happens h) l = tells h l

abbrev pub asks : ExpectedTrigger → Line → Bool
asks (trigger.Interrupt i) l = is_interrupt i l
asks (trigger.Happens h) l = tells h l

abbrev pub task_of : Caller → Option ℕ
task_of (caller.Task t) = Some t
task_of (caller.Handler h) = None

-- the task of whose deed a line tells, if it tells of one
abbrev pub task_in : Line → Option ℕ
task_in (line.Call p who made reply) = task_of who
task_in (line.Gets p t reply) = Some t
task_in (line.End p who) = task_of who
task_in (line.Fault p who told) = task_of who
task_in _ = None

-- the task that does this by a line, if one does
abbrev pub entering : Happening → Line → Option ℕ
entering h l = if tells h l then task_in l else None

abbrev pub is_this : (t : ℕ) → Option ℕ → Bool
is_this t None = false
is_this t (Some other) = nat_eq other t

-- a call terminates task t if it is answered E_OK
abbrev pub terminates : (t : ℕ) → Call → Bool
terminates t (call.TerTsk number) = is_same number (pos (t + 1))
terminates t _ = false

-- a line tells that task t ends, stops with a fault or is terminated
abbrev pub is_over : (t : ℕ) → Line → Bool
is_over t (line.Call p who made reply) = terminates t made && has_code er.Ok reply
is_over t (line.End p who) = is_this t (task_of who)
is_over t (line.Fault p who told) = is_this t (task_of who)
is_over t _ = false

abbrev pub does : Happening → (t : ℕ) → Line → Bool
does h t l = tells h l && is_this t (task_in l)

-- by a line task t leaves: it does what lets it, or it is over
abbrev pub leaves : Happening → (t : ℕ) → Line → Bool
leaves h t l = does h t l || is_over t l

-- who is inside stays, unless it leaves
abbrev pub staying : Happening → Option ℕ → Line → Option ℕ
staying h None l = None
staying h (Some t) l = if leaves h t l then None else Some t

abbrev pub entered_or : Option ℕ → Option ℕ → Option ℕ
entered_or (Some t) stayed = Some t
entered_or None stayed = stayed

-- the task inside after a line: the one that enters, or else the one that stays
abbrev pub holder_on : (enters leaves : Happening) → Option ℕ → Line → Option ℕ
holder_on enters leaves holder l = entered_or (entering enters l) (staying leaves holder l)

abbrev pub are_two : Option ℕ → Option ℕ → Bool
are_two (Some t) (Some u) = not (nat_eq t u)
are_two _ _ = false

-- by a line a task enters while another is inside
abbrev pub is_met : Happening → (holder : Option ℕ) → Line → Bool
is_met enters holder l = are_two holder (entering enters l)

abbrev pub is_state : StateWord → StateWord → Bool
is_state word.Running word.Running = true
is_state word.Ready word.Ready = true
is_state word.Waiting word.Waiting = true
is_state word.Suspended word.Suspended = true
is_state word.WaitingSuspended word.WaitingSuspended = true
is_state word.Dormant word.Dormant = true
is_state _ _ = false
