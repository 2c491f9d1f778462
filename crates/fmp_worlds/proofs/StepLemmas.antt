-- Each event that does something leaves a settled state.
use Rattle.std.proofs.Common.{◌≡◌, ℕ, zero, suc, ◌+◌, List, [], ◌∷◌, ◌++◌, Option, Some, None, Bool, true, false, refl}
use Rattle.fmp_base.specs.declared.bodies.Held.{Held}
use Rattle.fmp_base.specs.declared.bodies.Held.TheVariants.{Goes, Awaits}
use Rattle.fmp_base.specs.declared.calls.Answer.{Answer}
use Rattle.fmp_base.specs.declared.calls.Answer.TheVariants.{Replies, Waits, Ends, Spins}
use Rattle.fmp_base.specs.declared.calls.Call.{Call}
use Rattle.fmp_base.specs.declared.events.Event.{Event}
use Rattle.fmp_base.specs.declared.events.Event.TheVariants.{Run, Tick, Int}
use Rattle.fmp_base.specs.declared.events.Line.{Line}
use Rattle.fmp_base.specs.declared.events.Line.TheVariants as line
use Rattle.fmp_base.specs.declared.states.Caller.{Caller}
use Rattle.fmp_base.specs.declared.states.Caller.TheVariants as caller
use Rattle.fmp_base.specs.declared.states.Handler.{Handler}
use Rattle.fmp_base.specs.declared.systems.InterruptConfig.{InterruptConfig}
use Rattle.fmp_base.specs.Calls.{called}
use Rattle.fmp_base.specs.Meanings.{Meaning, Contexts, World, context_of}
use Rattle.fmp_base.specs.States.{KernelState, Progress, unchanged, task_at, processor_at}
use Rattle.fmp_base.specs.Steps.{Reaction, Nothing, Did, Kept, finished, actor_by, actor_ended, contexts_ended}
use Rattle.fmp_base.specs.Steps.{answered, stretched, run_in, run_by, interrupted, interrupted_by, step}
use Rattle.fmp_base.specs.Stretches.{Ending}
use Rattle.fmp_base.specs.Stretches as ends
use Rattle.fmp_base.specs.Systems.{SystemTables, interrupt_config}
use Rattle.fmp_base.specs.Ticks.{ticked, is_pending, with_interrupt_pending}
use Rattle.fmp_worlds.specs.Settled.{IsSettled}
use Rattle.fmp_worlds.proofs.Assigned.{Holds, runs-within}
use Rattle.fmp_worlds.proofs.CalledLemmas.{keeps-task_call, keeps-handler_call}
use Rattle.fmp_worlds.proofs.CallerLemmas.{Acts}
use Rattle.fmp_worlds.proofs.Changes.{holds-processor, holds-ended_itself}
use Rattle.fmp_worlds.proofs.Settling.{CanSettle, can_settle, settled-settles}
use Rattle.fmp_worlds.proofs.TickLemmas.{holds-ticked}

pub holds : (sys : SystemTables) (s : KernelState) → IsSettled sys s → Holds s
holds sys s h = record { each = λ q t r. record { place = h.assigned q t r; ready = h.ready q t r } }

-- what is done or kept leaves a settled state
abbrev pub LeavesSettled : {C : Type 0} → SystemTables → Reaction C → Type 0
LeavesSettled sys Nothing = Unit {0}
LeavesSettled sys (Did d) = IsSettled sys d.world.state
LeavesSettled sys (Kept p v) = IsSettled sys v.state

-- who is the actor of processor p in a settled state
abbrev pub IsActor : SystemTables → KernelState → ℕ → Caller → Type 0
IsActor sys s p (caller.Task t) = Acts sys s p t
IsActor sys s p (caller.Handler i) = Unit {0}

finished-settled : {C : Type 0} (sys : SystemTables) (M : Meaning C) (cs : Contexts (Held C)) (own : List Line)
    (g : Progress)
    → CanSettle sys g.state → LeavesSettled sys (Did (finished sys M cs own g))
finished-settled sys M cs own g h = settled-settles sys (record g { lines = own ++ g.lines }) h

called-can_settle : (sys : SystemTables) (s : KernelState) (p : ℕ) (who : Caller) (c : Call) → IsActor sys s p who
    → Holds s
    → CanSettle sys (called sys s p who c).progress.state
called-can_settle sys s p (caller.Task t) c k a = let h = keeps-task_call sys s p t c in h.settles k a
called-can_settle sys s p (caller.Handler i) c k a = let h = keeps-handler_call sys s p i c in h.settles tt a

ended-can_settle : (sys : SystemTables) (s : KernelState) (p : ℕ) (who : Caller) → IsActor sys s p who → Holds s
    → CanSettle sys (actor_ended sys s p who).state
ended-can_settle sys s p (caller.Task t) k a =
    can_settle sys _ (holds-ended_itself sys s p t (task_at s.tasks t) k.runs a)
ended-can_settle sys s p (caller.Handler i) k a = can_settle sys _ (holds-processor s p _ refl a)

answered-settled : {C : Type 0} (answer : Answer) (sys : SystemTables) (M : Meaning C) (cs : Contexts (Held C))
    (p : ℕ) (who : Caller) (c : Call) (g : Progress)
    → CanSettle sys g.state → LeavesSettled sys (answered answer sys M cs p who c g)
answered-settled (Replies reply) sys M cs p who c g h =
    finished-settled sys M cs (line.Call p who c (Some reply) ∷ []) g h
answered-settled Waits sys M cs p who c g h = finished-settled sys M cs (line.Call p who c None ∷ []) g h
answered-settled Ends sys M cs p who c g h = finished-settled sys M cs (line.End p who ∷ []) g h
answered-settled Spins sys M cs p who c g h = tt

pub stretched-settled : {C : Type 0} (sys : SystemTables) (M : Meaning C) (w : World C) (p : ℕ) (who : Caller)
    (x : Ending C)
    → IsActor sys w.state p who → IsSettled sys w.state → LeavesSettled sys (stretched sys M w p who x)
stretched-settled sys M w p who (ends.Call c made) k h =
    answered-settled (called sys w.state p who made).answer sys M _ p who made
    (called sys w.state p who made).progress (called-can_settle sys w.state p who made k (holds sys w.state h))
stretched-settled sys M w p who (ends.End c) k h =
    finished-settled sys M (contexts_ended sys M w.contexts p who) (line.End p who ∷ [])
    (actor_ended sys w.state p who) (ended-can_settle sys w.state p who k (holds sys w.state h))
stretched-settled sys M w p who (ends.Fault c fault) k h =
    finished-settled sys M (contexts_ended sys M w.contexts p who) (line.Fault p who fault ∷ [])
    (actor_ended sys w.state p who) (ended-can_settle sys w.state p who k (holds sys w.state h))
stretched-settled sys M w p who (ends.Over None) k h = tt
stretched-settled sys M w p who (ends.Over (Some c)) k h = h

run_in-settled : {C : Type 0} (sys : SystemTables) (M : Meaning C) (n : ℕ) (w : World C) (p : ℕ) (who : Caller)
    (c : Option (Held C))
    → IsActor sys w.state p who → IsSettled sys w.state → LeavesSettled sys (run_in sys M n w p who c)
run_in-settled sys M n w p who None k a = tt
run_in-settled sys M n w p who (Some (Awaits c)) k a = tt
run_in-settled sys M n w p who (Some (Goes c)) k a = stretched-settled sys M w p who _ k a

pub acts : (sys : SystemTables) (s : KernelState) (p t : ℕ) → IsSettled sys s → (processor_at s p).handler ≡ None
    → (processor_at s p).run ≡ Some t → Acts sys s p t
acts sys s p t h e r =
    record { runs = r; unhandled = e; nothing = λ l. h.begun p (runs-within s.processors p t r) e l }

run_by-settled : {C : Type 0} (sys : SystemTables) (M : Meaning C) (n : ℕ) (w : World C) (p : ℕ) (i : Option Handler)
    (t : Option ℕ)
    → IsSettled sys w.state → (processor_at w.state p).handler ≡ i → (processor_at w.state p).run ≡ t
    → LeavesSettled sys (run_by sys M n w p (actor_by i t))
run_by-settled sys M n w p (Some i) t h e r =
    run_in-settled sys M n w p (caller.Handler i) (context_of w.contexts p (caller.Handler i)) tt h
run_by-settled sys M n w p None (Some t) h e r =
    run_in-settled sys M n w p (caller.Task t) (context_of w.contexts p (caller.Task t)) (acts sys w.state p t h e r) h
run_by-settled sys M n w p None None h e r = tt

interrupted_by-settled : {C : Type 0} (b : Bool) (sys : SystemTables) (M : Meaning C) (w : World C) (i : ℕ)
    → Holds w.state
    → LeavesSettled sys (interrupted_by b sys M w i)
interrupted_by-settled true sys M w i a = tt
interrupted_by-settled false sys M w i a =
    finished-settled sys M w.contexts (line.Int i ∷ []) (unchanged (with_interrupt_pending w.state i))
    (can_settle sys _ a)

interrupted-settled : {C : Type 0} (config : Option InterruptConfig) (sys : SystemTables) (M : Meaning C)
    (w : World C) (i : ℕ)
    → Holds w.state → LeavesSettled sys (interrupted config sys M w i)
interrupted-settled None sys M w i a = tt
interrupted-settled (Some config) sys M w i a =
    interrupted_by-settled (is_pending w.state.pending_interrupts i) sys M w i a

pub step-leaves_settled : {C : Type 0} (sys : SystemTables) (M : Meaning C) (n : ℕ) (w : World C) (e : Event)
    → IsSettled sys w.state → LeavesSettled sys (step sys M n w e)
step-leaves_settled sys M n w (Run zero) h = tt
step-leaves_settled sys M n w (Run (suc p)) h =
    run_by-settled sys M n w p (processor_at w.state p).handler (processor_at w.state p).run h refl refl
step-leaves_settled sys M n w Tick h =
    finished-settled sys M w.contexts (line.Tick (w.state.clock + 1) ∷ []) (ticked sys w.state)
    (can_settle sys _ (holds-ticked sys w.state (holds sys w.state h)))
step-leaves_settled sys M n w (Int zero) h = tt
step-leaves_settled sys M n w (Int (suc i)) h =
    interrupted-settled (interrupt_config sys i) sys M w i (holds sys w.state h)
