-- One event is one step.
use Rattle.std.specs.Prelude.{ℕ, zero, suc, ◌+◌, List, [], ◌∷◌, ◌++◌, Option, Some, None, Bool, true, false}
use Rattle.fmp_base.specs.declared.bodies.Held.{Held}
use Rattle.fmp_base.specs.declared.bodies.Held.TheVariants.{Goes, Awaits}
use Rattle.fmp_base.specs.declared.calls.Answer.{Answer}
use Rattle.fmp_base.specs.declared.calls.Answer.TheVariants.{Replies, Waits, Ends, Spins}
use Rattle.fmp_base.specs.declared.calls.Call.{Call}
use Rattle.fmp_base.specs.declared.events.Effect.{Effect}
use Rattle.fmp_base.specs.declared.events.Effect.TheVariants as effect
use Rattle.fmp_base.specs.declared.events.Event.{Event}
use Rattle.fmp_base.specs.declared.events.Event.TheVariants.{Run, Tick, Int}
use Rattle.fmp_base.specs.declared.events.Line.{Line}
use Rattle.fmp_base.specs.declared.events.Line.TheVariants as line
use Rattle.fmp_base.specs.declared.states.Caller.{Caller}
use Rattle.fmp_base.specs.declared.states.Caller.TheVariants as caller
use Rattle.fmp_base.specs.declared.states.Handler.{Handler}
use Rattle.fmp_base.specs.declared.states.Processor.{Processor}
use Rattle.fmp_base.specs.declared.systems.InterruptConfig.{InterruptConfig}
use Rattle.fmp_base.specs.Calls.{called}
use Rattle.fmp_base.specs.Changes.{ended_itself}
use Rattle.fmp_base.specs.Meanings.{Meaning, Contexts, World, caller_body, context_of, with_context}
use Rattle.fmp_base.specs.Meanings.{with_handler_context, task_begun, contexts_after_all}
use Rattle.fmp_base.specs.Outcomes.{CallOutcome}
use Rattle.fmp_base.specs.Settles.{settled}
use Rattle.fmp_base.specs.States.{KernelState, Progress, unchanged, task_at, processor_at, with_processor}
use Rattle.fmp_base.specs.Stretches.{Ending}
use Rattle.fmp_base.specs.Stretches as ends
use Rattle.fmp_base.specs.Systems.{SystemTables, interrupt_config}
use Rattle.fmp_base.specs.Ticks.{ticked, is_pending, with_interrupt_pending}

-- the world after an event that did something, and the event's lines
pub record Done (C : Type 0) : Type 0 where
  pub world : World C
  pub lines : List Line

-- what an event does: nothing, or it is done, or the actor of a processor keeps the place that it has come to
pub data Reaction (C : Type 0) : Type 0 where
  Nothing : Reaction C
  Did : Done C → Reaction C
  Kept : ℕ → World C → Reaction C

-- an event that does this is taken: it is done, or keeps a place
abbrev pub IsTaken : {C : Type 0} → Reaction C → Type 0
IsTaken Nothing = ⊥
IsTaken (Did d) = Unit {0}
IsTaken (Kept p w) = Unit {0}

abbrev pub effect_of : {C : Type 0} → Reaction C → Effect
effect_of Nothing = effect.Nothing
effect_of (Did d) = effect.Done
effect_of (Kept p w) = effect.Kept

abbrev pub concluded : {C : Type 0} → SystemTables → Meaning C → Contexts (Held C) → Progress → Done C
concluded sys M cs g =
    record { world = record { state = g.state; contexts = contexts_after_all sys M cs g.lines }; lines = g.lines }

-- an event with its own lines first, then those of what it caused, then those of settling
abbrev pub finished : {C : Type 0} → SystemTables → Meaning C → Contexts (Held C) → List Line → Progress → Done C
finished sys M cs own g = concluded sys M cs (settled sys (record g { lines = own ++ g.lines }))

-- the actor of a processor: its running handler, else the task that it runs
abbrev pub actor_by : Option Handler → Option ℕ → Option Caller
actor_by (Some h) run = Some (caller.Handler h)
actor_by None (Some t) = Some (caller.Task t)
actor_by None None = None

abbrev pub actor_of : Processor → Option Caller
actor_of cpu = actor_by cpu.handler cpu.run

-- the handler of p no longer runs
abbrev pub handler_ended : KernelState → ℕ → KernelState
handler_ended s p = with_processor s p (record (processor_at s p) { handler = None })

-- the actor of p ends
abbrev pub actor_ended : SystemTables → KernelState → ℕ → Caller → Progress
actor_ended sys s p (caller.Task t) = ended_itself sys s p t (task_at s.tasks t)
actor_ended sys s p (caller.Handler h) = unchanged (handler_ended s p)

-- the effect of a call, given its answer; a caller that spins for a held spin lock has done nothing
abbrev pub answered : {C : Type 0} → Answer → SystemTables → Meaning C → Contexts (Held C) → ℕ → Caller → Call
    → Progress → Reaction C
answered (Replies reply) sys M cs p who c g = Did (finished sys M cs (line.Call p who c (Some reply) ∷ []) g)
answered Waits sys M cs p who c g = Did (finished sys M cs (line.Call p who c None ∷ []) g)
answered Ends sys M cs p who c g = Did (finished sys M cs (line.End p who ∷ []) g)
answered Spins sys M cs p who c g = Nothing

abbrev pub call_made : {C : Type 0} → SystemTables → Meaning C → Contexts (Held C) → ℕ → Caller → Call → CallOutcome
    → Reaction C
call_made sys M cs p who c o = answered o.answer sys M cs p who c o.progress

-- the actor of p has come to this context
abbrev pub with_place : {C : Type 0} → World C → ℕ → Caller → C → World C
with_place w p who c = record w { contexts = with_context w.contexts p who (Some (Goes c)) }

-- what is kept of an actor that ends: of a task a fresh context, as at setup, and of a handler nothing
abbrev pub contexts_ended : {C : Type 0} → SystemTables → Meaning C → Contexts (Held C) → ℕ → Caller
    → Contexts (Held C)
contexts_ended sys M cs p (caller.Task t) = task_begun sys M cs t
contexts_ended sys M cs p (caller.Handler h) = with_handler_context cs p None

-- the actor of p ends, with this line
abbrev pub ended_with : {C : Type 0} → SystemTables → Meaning C → World C → ℕ → Caller → Line → Done C
ended_with sys M w p who own =
    finished sys M (contexts_ended sys M w.contexts p who) (own ∷ []) (actor_ended sys w.state p who)

-- the actor of p has made this stretch: its context is taken, and the call, end or fault is carried out; at the bound
-- nothing but its place changes
abbrev pub stretched : {C : Type 0} → SystemTables → Meaning C → World C → ℕ → Caller → Ending C → Reaction C
stretched sys M w p who (ends.Call c made) =
    call_made sys M (with_context w.contexts p who (Some (Awaits c))) p who made (called sys w.state p who made)
stretched sys M w p who (ends.End c) = Did (ended_with sys M w p who (line.End p who))
stretched sys M w p who (ends.Fault c fault) = Did (ended_with sys M w p who (line.Fault p who fault))
stretched sys M w p who (ends.Over None) = Nothing
stretched sys M w p who (ends.Over (Some c)) = Kept p (with_place w p who c)

-- an actor that awaits a reply makes no stretch
abbrev pub run_in : {C : Type 0} → SystemTables → Meaning C → ℕ → World C → ℕ → Caller → Option (Held C) → Reaction C
run_in sys M bound w p who None = Nothing
run_in sys M bound w p who (Some (Awaits c)) = Nothing
run_in sys M bound w p who (Some (Goes c)) =
    stretched sys M w p who (M.stretch (caller_body sys w.contexts p who) bound c)

abbrev pub run_by : {C : Type 0} → SystemTables → Meaning C → ℕ → World C → ℕ → Option Caller → Reaction C
run_by sys M bound w p None = Nothing
run_by sys M bound w p (Some who) = run_in sys M bound w p who (context_of w.contexts p who)

-- the handler of the interrupt at place i becomes pending; one that is pending already does nothing
abbrev pub interrupted_by : {C : Type 0} → Bool → SystemTables → Meaning C → World C → ℕ → Reaction C
interrupted_by true sys M w i = Nothing
interrupted_by false sys M w i =
    Did (finished sys M w.contexts (line.Int i ∷ []) (unchanged (with_interrupt_pending w.state i)))

abbrev pub interrupted : {C : Type 0} → Option InterruptConfig → SystemTables → Meaning C → World C → ℕ → Reaction C
interrupted None sys M w i = Nothing
interrupted (Some config) sys M w i = interrupted_by (is_pending w.state.pending_interrupts i) sys M w i

-- what an event does
abbrev pub step : {C : Type 0} → SystemTables → Meaning C → (bound : ℕ) → World C → Event → Reaction C
step sys M bound w (Run zero) = Nothing
step sys M bound w (Run (suc p)) = run_by sys M bound w p (actor_of (processor_at w.state p))
step sys M bound w Tick =
    Did (finished sys M w.contexts (line.Tick (w.state.clock + 1) ∷ []) (ticked sys w.state))
step sys M bound w (Int zero) = Nothing
step sys M bound w (Int (suc i)) = interrupted (interrupt_config sys i) sys M w i
