-- The first line of a done event tells which processor it ran.
use Rattle.std.proofs.Common.{◌≡◌, ℕ, zero, suc, ◌+◌, List, [], ◌∷◌, ◌++◌, Option, Some, None, Bool, true, false}
use Rattle.std.proofs.Common.{length, refl, if◌then◌else◌}
use Rattle.fmp_base.specs.declared.bodies.Held.{Held}
use Rattle.fmp_base.specs.declared.bodies.Held.TheVariants.{Goes, Awaits}
use Rattle.fmp_base.specs.declared.calls.Answer.{Answer}
use Rattle.fmp_base.specs.declared.calls.Answer.TheVariants.{Replies, Waits, Ends, Spins}
use Rattle.fmp_base.specs.declared.calls.Call.{Call}
use Rattle.fmp_base.specs.declared.events.Event.{Event}
use Rattle.fmp_base.specs.declared.events.Event.TheVariants.{Run, Tick, Int}
use Rattle.fmp_base.specs.declared.events.Line.{Line}
use Rattle.fmp_base.specs.declared.events.Line.TheVariants as line
use Rattle.fmp_base.specs.declared.states.Caller.{Caller}
use Rattle.fmp_base.specs.declared.states.Handler.{Handler}
use Rattle.fmp_base.specs.declared.states.Processor.{Processor}
use Rattle.fmp_base.specs.declared.systems.InterruptConfig.{InterruptConfig}
use Rattle.fmp_base.specs.Calls.{called}
use Rattle.fmp_base.specs.Meanings.{Meaning, Contexts, World, caller_body, context_of, with_context}
use Rattle.fmp_base.specs.Queues.{top}
use Rattle.fmp_base.specs.Settles.{all_settled, dispatched, handler_to_begin, is_dispatch_held, settled_on}
use Rattle.fmp_base.specs.Settles.{settled_with}
use Rattle.fmp_base.specs.States.{Progress, places_from, processor_at, unchanged}
use Rattle.fmp_base.specs.Steps.{Reaction, Nothing, Did, Kept, actor_ended, contexts_ended, actor_of, answered}
use Rattle.fmp_base.specs.Steps.{finished, interrupted, interrupted_by, run_by, run_in, step, stretched}
use Rattle.fmp_base.specs.Stretches.{Ending}
use Rattle.fmp_base.specs.Stretches as ends
use Rattle.fmp_base.specs.Systems.{SystemTables, interrupt_config}
use Rattle.fmp_base.specs.Ticks.{is_pending, ticked, with_interrupt_pending}
use Rattle.fmp_worlds.specs.Stamps.{place_of, place_run, run_place}

abbrev pub Fronts : Option ℕ → List Line → Type 0
Fronts o [] = ⊥
Fronts o (l ∷ ls) = place_of l ≡ o

front-append : (o : Option ℕ) (xs ys : List Line) → Fronts o xs → Fronts o (xs ++ ys)
front-append o [] ys h = absurd h
front-append o (x ∷ xs) ys h = h

front-held : (o : Option ℕ) (b : Bool) (g : Progress) (p : ℕ) (cpu : Processor) (t : Option ℕ) → Fronts o g.lines
    → Fronts o (if b then g else dispatched g p cpu t).lines
front-held o true g p cpu t h = h
front-held o false g p cpu t h = front-append o g.lines _ h

front-with : (o : Option ℕ) (i : Option Handler) (g : Progress) (p : ℕ) (cpu : Processor) → Fronts o g.lines
    → Fronts o (settled_with i g p cpu).lines
front-with o (Some i) g p cpu h = front-append o g.lines _ h
front-with o None g p cpu h = front-held o (is_dispatch_held cpu) g p cpu (top g.state p) h

front-all : (o : Option ℕ) (sys : SystemTables) (g : Progress) (ps : List ℕ) → Fronts o g.lines
    → Fronts o (all_settled sys g ps).lines
front-all o sys g [] h = h
front-all o sys g (p ∷ ps) h =
    let cpu = processor_at g.state p in
    front-all o sys (settled_on sys g p cpu) ps (front-with o (handler_to_begin sys g.state p cpu) g p cpu h)

front-finished : {C : Type 0} (o : Option ℕ) (sys : SystemTables) (M : Meaning C) (cs : Contexts (Held C))
    (own : Line) (g : Progress) → place_of own ≡ o
    → Fronts o (finished sys M cs (own ∷ []) g).lines
front-finished o sys M cs own g h = front-all o sys (record g { lines = own ∷ g.lines })
    (places_from 0 (length g.state.processors)) h

-- a reaction whose first line tells this processor, or none, or that kept the place of its actor
abbrev pub RanOn : {C : Type 0} → Option ℕ → Reaction C → Type 0
RanOn o Nothing = Unit {0}
RanOn o (Did d) = Fronts o d.lines
RanOn o (Kept q w) = o ≡ Some q

ran-answered : {C : Type 0} (a : Answer) (sys : SystemTables) (M : Meaning C) (cs : Contexts (Held C)) (p : ℕ)
    (who : Caller) (c : Call) (g : Progress)
    → RanOn (Some p) (answered a sys M cs p who c g)
ran-answered (Replies reply) sys M cs p who c g = front-finished (Some p) sys M cs
    (line.Call p who c (Some reply)) g refl
ran-answered Waits sys M cs p who c g = front-finished (Some p) sys M cs (line.Call p who c None) g refl
ran-answered Ends sys M cs p who c g = front-finished (Some p) sys M cs (line.End p who) g refl
ran-answered Spins sys M cs p who c g = tt

pub ran-stretched : {C : Type 0} (sys : SystemTables) (M : Meaning C) (w : World C) (p : ℕ) (who : Caller)
    (x : Ending C)
    → RanOn (Some p) (stretched sys M w p who x)
ran-stretched sys M w p who (ends.Call c made) =
    let o = called sys w.state p who made in
    ran-answered o.answer sys M (with_context w.contexts p who (Some (Awaits c))) p who made o.progress
ran-stretched sys M w p who (ends.End c) =
    front-finished (Some p) sys M (contexts_ended sys M w.contexts p who) (line.End p who)
    (actor_ended sys w.state p who) refl
ran-stretched sys M w p who (ends.Fault c fault) =
    front-finished (Some p) sys M (contexts_ended sys M w.contexts p who) (line.Fault p who fault)
    (actor_ended sys w.state p who) refl
ran-stretched sys M w p who (ends.Over None) = tt
ran-stretched sys M w p who (ends.Over (Some c)) = refl

ran-in : {C : Type 0} (sys : SystemTables) (M : Meaning C) (n : ℕ) (w : World C) (p : ℕ) (who : Caller)
    (o : Option (Held C))
    → RanOn (Some p) (run_in sys M n w p who o)
ran-in sys M n w p who None = tt
ran-in sys M n w p who (Some (Awaits c)) = tt
ran-in sys M n w p who (Some (Goes c)) = ran-stretched sys M w p who (M.stretch (caller_body sys w.contexts p who) n c)

ran-by : {C : Type 0} (sys : SystemTables) (M : Meaning C) (n : ℕ) (w : World C) (p : ℕ) (o : Option Caller)
    → RanOn (Some p) (run_by sys M n w p o)
ran-by sys M n w p None = tt
ran-by sys M n w p (Some who) = ran-in sys M n w p who (context_of w.contexts p who)

ran-interrupted_by : {C : Type 0} (b : Bool) (sys : SystemTables) (M : Meaning C) (w : World C) (i : ℕ)
    → RanOn None (interrupted_by b sys M w i)
ran-interrupted_by true sys M w i = tt
ran-interrupted_by false sys M w i =
    front-finished None sys M w.contexts (line.Int i) (unchanged (with_interrupt_pending w.state i)) refl

ran-interrupted : {C : Type 0} (o : Option InterruptConfig) (sys : SystemTables) (M : Meaning C) (w : World C) (i : ℕ)
    → RanOn None (interrupted o sys M w i)
ran-interrupted None sys M w i = tt
ran-interrupted (Some config) sys M w i = ran-interrupted_by (is_pending w.state.pending_interrupts i) sys M w i

pub ran-step : {C : Type 0} (sys : SystemTables) (M : Meaning C) (n : ℕ) (w : World C) (e : Event)
    → RanOn (run_place e) (step sys M n w e)
ran-step sys M n w (Run zero) = tt
ran-step sys M n w (Run (suc p)) = ran-by sys M n w p (actor_of (processor_at w.state p))
ran-step sys M n w Tick = front-finished None sys M w.contexts (line.Tick (w.state.clock + 1)) (ticked sys w.state) refl
ran-step sys M n w (Int zero) = tt
ran-step sys M n w (Int (suc i)) = ran-interrupted (interrupt_config sys i) sys M w i

-- the processor that the lines of a reaction name, or whose actor's place it kept
abbrev pub Names : {C : Type 0} → Option ℕ → Reaction C → Type 0
Names o Nothing = Unit {0}
Names o (Did d) = place_run d.lines ≡ o
Names o (Kept q w) = o ≡ Some q

pub front-names : (o : Option ℕ) (ls : List Line) → Fronts o ls → place_run ls ≡ o
front-names o [] h = absurd h
front-names o (l ∷ ls) h = h

ran-names : {C : Type 0} (o : Option ℕ) (r : Reaction C) → RanOn o r → Names o r
ran-names o Nothing h = tt
ran-names o (Did d) h = front-names o d.lines h
ran-names o (Kept q w) h = h

-- the lines of an event name the processor that it ran
pub step_names : {C : Type 0} (sys : SystemTables) (M : Meaning C) (n : ℕ) (w : World C) (e : Event)
    → Names (run_place e) (step sys M n w e)
step_names sys M n w e = ran-names (run_place e) (step sys M n w e) (ran-step sys M n w e)
