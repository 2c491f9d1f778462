-- Events that fit where out places count as written by every reply: those whose replies write them. E_OK does. Where
-- another code is told, its caller must not stand after a call with an out place in the world that the event leaves.
use Rattle.std.specs.Prelude.{ℕ, ◌≡◌, Bool, true, false, not, ◌&&◌, ◌||◌, Option, Some, None, List, slice_get}
use Rattle.std.specs.List.{list_all}
use Rattle.fmp_base.specs.declared.bodies.HandlerContext.{HandlerContext}
use Rattle.fmp_base.specs.declared.bodies.Held.{Held}
use Rattle.fmp_base.specs.declared.bodies.Held.TheVariants.{Goes, Awaits}
use Rattle.fmp_base.specs.declared.calls.Reply.{Reply}
use Rattle.fmp_base.specs.declared.codes.Er.{Er}
use Rattle.fmp_base.specs.declared.codes.Er.TheVariants as er
use Rattle.fmp_base.specs.declared.events.Event.{Event}
use Rattle.fmp_base.specs.declared.events.Line.{Line}
use Rattle.fmp_base.specs.declared.events.Line.TheVariants as line
use Rattle.fmp_base.specs.declared.states.Caller.{Caller}
use Rattle.fmp_base.specs.declared.states.Caller.TheVariants as caller
use Rattle.fmp_base.specs.declared.systems.TaskConfig.{TaskConfig}
use Rattle.fmp_base.specs.Meanings.{World, context_at}
use Rattle.fmp_base.specs.States.{task_at}
use Rattle.fmp_base.specs.Steps.{Reaction, Nothing, Did, Kept, step}
use Rattle.fmp_base.specs.Systems.{SystemTables, body_of}
use Rattle.fmp_base.specs.TaskCalls.{is_dormant}
use Rattle.fmp_instructions.specs.declared.instructions.Instruction.{Instruction}
use Rattle.fmp_instructions.specs.declared.instructions.Instruction.TheVariants.{Call}
use Rattle.fmp_instructions.specs.declared.instructions.MachineContext.{MachineContext}
use Rattle.fmp_instructions.specs.Instructions.{BodyTables, instructions_at}
use Rattle.fmp_instructions.specs.Machine.{call_before, code_meaning}

abbrev pub has_out : Option Instruction → Bool
has_out (Some (Call service (Some out) result)) = true
has_out _ = false

-- the instruction before a place of a body is a call with an out place
abbrev pub is_behind_out : List BodyTables → (body pc : ℕ) → Bool
is_behind_out bodies body pc = has_out (call_before (instructions_at bodies body) pc)

abbrev pub held_behind_out : List BodyTables → (body : ℕ) → Held MachineContext → Bool
held_behind_out bodies body (Goes c) = is_behind_out bodies body c.pc
held_behind_out bodies body (Awaits c) = is_behind_out bodies body c.pc

-- a body of which this is kept, if anything is, stands after no such call
abbrev pub is_clear : List BodyTables → (body : ℕ) → Option (Held MachineContext) → Bool
is_clear bodies body None = true
is_clear bodies body (Some held) = not (held_behind_out bodies body held)

abbrev pub is_clear_of : List BodyTables → Option TaskConfig → Option (Held MachineContext) → Bool
is_clear_of bodies None held = false
is_clear_of bodies (Some config) held = is_clear bodies (body_of config.entry) held

-- task t is started, and stands after no such call
abbrev pub is_task_clear : SystemTables → List BodyTables → World MachineContext → (t : ℕ) → Bool
is_task_clear sys bodies w t =
    not (is_dormant (task_at w.state.tasks t).phase)
    && is_clear_of bodies (slice_get sys.tasks t) (context_at w.contexts.tasks t)

abbrev pub is_handler_clear : List BodyTables → Option (HandlerContext (Held MachineContext)) → Bool
is_handler_clear bodies None = true
is_handler_clear bodies (Some h) = is_clear bodies h.body (Some h.context)

abbrev pub is_caller_clear : SystemTables → List BodyTables → World MachineContext → (p : ℕ) → Caller → Bool
is_caller_clear sys bodies w p (caller.Task t) = is_task_clear sys bodies w t
is_caller_clear sys bodies w p (caller.Handler h) = is_handler_clear bodies (context_at w.contexts.handlers p)

abbrev pub is_e_ok : Er → Bool
is_e_ok er.Ok = true
is_e_ok _ = false

-- the reply is E_OK, or does not come yet
abbrev pub is_reply_ok : Option Reply → Bool
is_reply_ok None = true
is_reply_ok (Some reply) = is_e_ok reply.code

-- a line tells E_OK, or its caller stands after no call with an out place
unfoldable pub is_written : SystemTables → List BodyTables → World MachineContext → Line → Bool
is_written sys bodies w (line.Call p who made reply) = is_reply_ok reply || is_caller_clear sys bodies w p who
is_written sys bodies w (line.Gets p t reply) = is_e_ok reply.code || is_task_clear sys bodies w t
is_written sys bodies w _ = true

-- so do all lines of an event
abbrev pub AreWritten : SystemTables → List BodyTables → Reaction MachineContext → Type 0
AreWritten sys bodies Nothing = Unit {0}
AreWritten sys bodies (Did d) = list_all (is_written sys bodies d.world) d.lines ≡ true
AreWritten sys bodies (Kept p w) = Unit {0}

-- an event fits a world
abbrev pub IsFit : (outs : Bool) → SystemTables → List BodyTables → (n : ℕ) → World MachineContext → Event → Type 0
IsFit false sys bodies n w e = Unit {0}
IsFit true sys bodies n w e = AreWritten sys bodies (step sys (code_meaning bodies) n w e)
