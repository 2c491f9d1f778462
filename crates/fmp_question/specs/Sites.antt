-- Answers that must never be given to one call: a line tells that its caller gets one, and the caller stands right
-- after that call in the world that the event leaves.
use Rattle.std.specs.Prelude.{ℕ, ◌+◌, ◌-◌, List, Option, Some, None, Bool, true, false, nat_eq, not, is_some, slice_get}
use Rattle.std.specs.Prelude.{◌&&◌, ◌||◌}
use Rattle.std.specs.List.{list_any}
use Rattle.fmp_base.specs.declared.bodies.HandlerContext.{HandlerContext}
use Rattle.fmp_base.specs.declared.bodies.Held.{Held}
use Rattle.fmp_base.specs.declared.bodies.Held.TheVariants.{Goes, Awaits}
use Rattle.fmp_base.specs.declared.events.Line.{Line}
use Rattle.fmp_base.specs.declared.events.Line.TheVariants as line
use Rattle.fmp_base.specs.declared.states.Caller.{Caller}
use Rattle.fmp_base.specs.declared.states.Caller.TheVariants as caller
use Rattle.fmp_base.specs.declared.systems.TaskConfig.{TaskConfig}
use Rattle.fmp_base.specs.Meanings.{World, context_at}
use Rattle.fmp_base.specs.States.{task_at}
use Rattle.fmp_base.specs.Systems.{SystemTables, body_of}
use Rattle.fmp_base.specs.TaskCalls.{is_dormant}
use Rattle.fmp_question.specs.declared.site.CallSite.{CallSite}
use Rattle.fmp_question.specs.declared.question.NeverAt.{NeverAt}
use Rattle.fmp_question.specs.declared.question.Question.{Question}
use Rattle.fmp_question.specs.Forbidden.{forbids, has_code, is_same_code}
use Rattle.fmp_instructions.specs.declared.instructions.MachineContext.{MachineContext}

-- the next instruction of a body of which this is kept
abbrev pub pc_of : Held MachineContext → ℕ
pc_of (Goes c) = c.pc
pc_of (Awaits c) = c.pc

-- the instruction before it, which is a call where the body stands after one
abbrev pub last_call : Option (Held MachineContext) → ℕ
last_call None = 0
last_call (Some held) = pc_of held - 1

-- the next instruction is the one after this call
abbrev pub is_after : CallSite → Option (Held MachineContext) → Bool
is_after site None = false
is_after site (Some held) = nat_eq (pc_of held) (site.pc + 1)

-- a task of this configuration has the body of the call
abbrev pub has_body : CallSite → Option TaskConfig → Bool
has_body site None = false
has_body site (Some config) = nat_eq (body_of config.entry) site.body

-- task t is started, and stands after the call
abbrev pub is_task_after : SystemTables → World MachineContext → CallSite → (t : ℕ) → Bool
is_task_after sys w site t =
    not (is_dormant (task_at w.state.tasks t).phase)
    && (has_body site (slice_get sys.tasks t) && is_after site (context_at w.contexts.tasks t))

-- a handler runs there, and stands after the call
abbrev pub is_handler_after : CallSite → Option (HandlerContext (Held MachineContext)) → Bool
is_handler_after site None = false
is_handler_after site (Some h) = nat_eq h.body site.body && is_after site (Some h.context)

-- the caller on the processor at place p stands after the call
abbrev pub is_caller_after : SystemTables → World MachineContext → CallSite → (p : ℕ) → Caller → Bool
is_caller_after sys w site p (caller.Task t) = is_task_after sys w site t
is_caller_after sys w site p (caller.Handler h) = is_handler_after site (context_at w.contexts.handlers p)

-- the answers of a task are meant: of this one, or of anybody
abbrev pub is_of : (by : Option ℕ) → (t : ℕ) → Bool
is_of None t = true
is_of (Some task) t = nat_eq task t

abbrev pub is_of_caller : (by : Option ℕ) → Caller → Bool
is_of_caller by (caller.Task t) = is_of by t
is_of_caller by (caller.Handler h) = not (is_some by)

-- a line tells that the call gets the answer
unfoldable pub tells_there : SystemTables → World MachineContext → NeverAt → Line → Bool
tells_there sys w never (line.Call p who made reply) =
    (has_code never.code reply && is_of_caller never.by who) && is_caller_after sys w never.site p who
tells_there sys w never (line.Gets p t reply) =
    (is_same_code reply.code never.code && is_of never.by t) && is_task_after sys w never.site t
tells_there sys w never _ = false

-- a line tells something of these
abbrev pub forbids_there : SystemTables → List NeverAt → World MachineContext → Line → Bool
forbids_there sys nevers w l = list_any (λ never. tells_there sys w never l) nevers

-- a line tells something that a question forbids, anywhere or at a call
abbrev pub is_bad : SystemTables → Question → World MachineContext → Line → Bool
is_bad sys q w l = forbids q.nevers.items l || forbids_there sys q.nevers_at.items w l
