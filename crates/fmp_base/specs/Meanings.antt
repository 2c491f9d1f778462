-- What bodies mean, and the contexts that they keep between their stretches.
use Rattle.std.specs.Prelude.{ℕ, ℤ, pos, List, [], ◌∷◌, Option, Some, None, slice_get, slice_set}
use Rattle.fmp_base.specs.declared.bodies.HandlerContext.{HandlerContext}
use Rattle.fmp_base.specs.declared.bodies.HandlerStart.{HandlerStart}
use Rattle.fmp_base.specs.declared.bodies.Held.{Held}
use Rattle.fmp_base.specs.declared.bodies.Held.TheVariants.{Goes, Awaits}
use Rattle.fmp_base.specs.declared.calls.Reply.{Reply}
use Rattle.fmp_base.specs.declared.events.Line.{Line}
use Rattle.fmp_base.specs.declared.events.Line.TheVariants as line
use Rattle.fmp_base.specs.declared.states.Caller.{Caller}
use Rattle.fmp_base.specs.declared.states.Caller.TheVariants as caller
use Rattle.fmp_base.specs.declared.states.Handler.{Handler}
use Rattle.fmp_base.specs.declared.states.Handler.TheVariants as handler
use Rattle.fmp_base.specs.declared.systems.CyclicConfig.{CyclicConfig}
use Rattle.fmp_base.specs.declared.systems.InterruptConfig.{InterruptConfig}
use Rattle.fmp_base.specs.States.{KernelState}
use Rattle.fmp_base.specs.Stretches.{Ending}
use Rattle.fmp_base.specs.Systems.{SystemTables, found, body_of, task_config, interrupt_config}

-- a meaning of bodies with contexts C: the context at a start, a stretch within a bound, and the context after a reply
-- to the call that ended a stretch
pub record Meaning (C : Type 0) : Type 0 where
  pub start : (body : ℕ) (exinf : ℤ) → C
  pub stretch : (body bound : ℕ) (context : C) → Ending C
  pub deliver : (body : ℕ) (context : C) (reply : Reply) → C

-- the contexts of the tasks' bodies, and of the handlers that run, by processor; what stands here for a dormant task,
-- or for a processor without a handler, does not matter
pub record Contexts (C : Type 0) : Type 0 where
  pub tasks : List (Option C)
  pub handlers : List (Option (HandlerContext C))

-- the state of the kernel and the contexts of the bodies
pub record World (C : Type 0) : Type 0 where
  pub state : KernelState
  pub contexts : Contexts (Held C)

abbrev pub task_body : SystemTables → ℕ → ℕ
task_body sys t = body_of (task_config sys t).entry

-- an interrupt handler has exinf 0
abbrev pub interrupt_start : Option InterruptConfig → Option HandlerStart
interrupt_start None = None
interrupt_start (Some i) = Some (record { body = body_of i.entry; exinf = pos 0 })

abbrev pub cyclic_start : Option CyclicConfig → Option HandlerStart
cyclic_start None = None
cyclic_start (Some c) = Some (record { body = body_of c.entry; exinf = c.exinf })

-- how a handler begins, where the system has it
abbrev pub handler_start : SystemTables → Handler → Option HandlerStart
handler_start sys (handler.Interrupt i) = interrupt_start (interrupt_config sys i)
handler_start sys (handler.Cyclic c) = cyclic_start (slice_get sys.cyclics c)

-- what is at a place of a list of contexts, if anything
abbrev pub context_at : {A : Type 0} → List (Option A) → ℕ → Option A
context_at cs i = found None (slice_get cs i)

abbrev pub context_in : {C : Type 0} → Option (HandlerContext C) → Option C
context_in None = None
context_in (Some h) = Some h.context

abbrev pub body_in : {C : Type 0} → Option (HandlerContext C) → ℕ
body_in None = 0
body_in (Some h) = h.body

-- the context that goes on, or awaits a reply, if one is kept
abbrev pub kept_context : {C : Type 0} → Option (Held C) → Option C
kept_context None = None
kept_context (Some (Goes c)) = Some c
kept_context (Some (Awaits c)) = Some c

-- the context of the caller on processor p
abbrev pub context_of : {C : Type 0} → Contexts C → ℕ → Caller → Option C
context_of cs p (caller.Task t) = context_at cs.tasks t
context_of cs p (caller.Handler h) = context_in (context_at cs.handlers p)

-- the body of the caller on processor p
abbrev pub caller_body : {C : Type 0} → SystemTables → Contexts C → ℕ → Caller → ℕ
caller_body sys cs p (caller.Task t) = task_body sys t
caller_body sys cs p (caller.Handler h) = body_in (context_at cs.handlers p)

abbrev pub with_handler_context : {C : Type 0} → Contexts C → ℕ → Option (HandlerContext C) → Contexts C
with_handler_context cs p h = record cs { handlers = slice_set cs.handlers p h }

-- a context of this body
abbrev pub context_for : {C : Type 0} → ℕ → Option C → Option (HandlerContext C)
context_for body None = None
context_for body (Some c) = Some (record { body = body; context = c })

-- the caller on processor p has this context now
abbrev pub with_context : {C : Type 0} → Contexts C → ℕ → Caller → Option C → Contexts C
with_context cs p (caller.Task t) c = record cs { tasks = slice_set cs.tasks t c }
with_context cs p (caller.Handler h) c =
    with_handler_context cs p (context_for (body_in (context_at cs.handlers p)) c)

-- a reply to a context, where one awaits it
abbrev pub told : {C : Type 0} → Meaning C → ℕ → Reply → Option (Held C) → Option (Held C)
told M body reply None = None
told M body reply (Some (Goes c)) = Some (Goes c)
told M body reply (Some (Awaits c)) = Some (Goes (M.deliver body c reply))

-- the caller on processor p is told a reply
abbrev pub delivered_to : {C : Type 0} → SystemTables → Meaning C → Contexts (Held C) → ℕ → Caller → Reply
    → Contexts (Held C)
delivered_to sys M cs p who reply =
    with_context cs p who (told M (caller_body sys cs p who) reply (context_of cs p who))

abbrev pub called_back : {C : Type 0} → SystemTables → Meaning C → Contexts (Held C) → ℕ → Caller → Option Reply
    → Contexts (Held C)
called_back sys M cs p who None = cs
called_back sys M cs p who (Some reply) = delivered_to sys M cs p who reply

-- task t has a fresh context
abbrev pub task_begun : {C : Type 0} → SystemTables → Meaning C → Contexts (Held C) → ℕ → Contexts (Held C)
task_begun sys M cs t =
    record cs { tasks = slice_set cs.tasks t (Some (Goes (M.start (task_body sys t) (task_config sys t).exinf))) }

abbrev pub fresh_context : {C : Type 0} → Meaning C → Option HandlerStart → Option (HandlerContext (Held C))
fresh_context M None = None
fresh_context M (Some h) = Some (record { body = h.body; context = Goes (M.start h.body h.exinf) })

-- handler h has a fresh context on processor p
abbrev pub handler_begun : {C : Type 0} → SystemTables → Meaning C → Contexts (Held C) → ℕ → Handler → Contexts (Held C)
handler_begun sys M cs p h = with_handler_context cs p (fresh_context M (handler_start sys h))

-- the contexts after what a line tells: a task or handler that starts has a fresh one, a caller and a released task
-- are told their replies
abbrev pub contexts_after : {C : Type 0} → SystemTables → Meaning C → Contexts (Held C) → Line → Contexts (Held C)
contexts_after sys M cs (line.Starts p t) = task_begun sys M cs t
contexts_after sys M cs (line.Gets p t reply) = delivered_to sys M cs p (caller.Task t) reply
contexts_after sys M cs (line.Begins p h) = handler_begun sys M cs p h
contexts_after sys M cs (line.Call p who c reply) = called_back sys M cs p who reply
contexts_after sys M cs _ = cs

abbrev pub contexts_after_all : {C : Type 0} → SystemTables → Meaning C → Contexts (Held C) → List Line
    → Contexts (Held C)
contexts_after_all sys M cs [] = cs
contexts_after_all sys M cs (l ∷ ls) = contexts_after_all sys M (contexts_after sys M cs l) ls
