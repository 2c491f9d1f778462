-- The actors of the processors, and their stamps, which tell whether an actor or its context may have changed.
use Rattle.std.specs.Prelude.{◌≡◌, ℕ, zero, suc, ◌+◌, List, [], ◌∷◌, Option, Some, None, Bool, true, false, ◌||◌, not}
use Rattle.std.specs.Prelude.{nat_eq}
use Rattle.fmp_base.specs.declared.bodies.Held.{Held}
use Rattle.fmp_base.specs.declared.bodies.Held.TheVariants.{Goes, Awaits}
use Rattle.fmp_base.specs.declared.events.Event.{Event}
use Rattle.fmp_base.specs.declared.events.Event.TheVariants.{Run, Tick, Int}
use Rattle.fmp_base.specs.declared.events.Line.{Line}
use Rattle.fmp_base.specs.declared.events.Line.TheVariants as line
use Rattle.fmp_base.specs.declared.states.Caller.{Caller}
use Rattle.fmp_base.specs.declared.states.Caller.TheVariants as caller
use Rattle.fmp_base.specs.declared.states.Handler.{Handler}
use Rattle.fmp_base.specs.declared.states.Handler.TheVariants as handler
use Rattle.fmp_base.specs.Meanings.{Meaning, Contexts, World, caller_body, context_of}
use Rattle.fmp_base.specs.Settles.{is_same_task}
use Rattle.fmp_base.specs.States.{KernelState, processor_at}
use Rattle.fmp_base.specs.Steps.{Reaction, Nothing, Did, Kept, actor_of, step, stretched}
use Rattle.fmp_base.specs.Stretches.{Ending}
use Rattle.fmp_base.specs.Systems.{SystemTables}

-- a body, and the context from which it goes on
pub record Going (C : Type 0) : Type 0 where
  pub entry : ℕ
  pub context : C

abbrev pub going_from : {C : Type 0} → ℕ → Option (Held C) → Option (Going C)
going_from entry None = None
going_from entry (Some (Awaits c)) = None
going_from entry (Some (Goes c)) = Some (record { entry = entry; context = c })

-- the body and the context of this caller on p, unless it awaits a reply
abbrev pub going : {C : Type 0} → SystemTables → Contexts (Held C) → ℕ → Caller → Option (Going C)
going sys cs p who = going_from (caller_body sys cs p who) (context_of cs p who)

abbrev pub going_by : {C : Type 0} → SystemTables → Contexts (Held C) → ℕ → Option Caller → Option (Going C)
going_by sys cs p None = None
going_by sys cs p (Some who) = going sys cs p who

-- the body and the context of the actor of the processor at place p, if it has one
abbrev pub actor_at : {C : Type 0} → SystemTables → World C → ℕ → Option (Going C)
actor_at sys w p = going_by sys w.contexts p (actor_of (processor_at w.state p))

-- the same by the processor's number; there is no processor 0
abbrev pub actor_at_number : {C : Type 0} → SystemTables → World C → ℕ → Option (Going C)
actor_at_number sys w zero = None
actor_at_number sys w (suc p) = actor_at sys w p

abbrev pub is_same_handler : Handler → Handler → Bool
is_same_handler (handler.Interrupt i) (handler.Interrupt j) = nat_eq i j
is_same_handler (handler.Interrupt i) (handler.Cyclic d) = false
is_same_handler (handler.Cyclic c) (handler.Interrupt j) = false
is_same_handler (handler.Cyclic c) (handler.Cyclic d) = nat_eq c d

abbrev pub is_same_caller : Caller → Caller → Bool
is_same_caller (caller.Task t) (caller.Task u) = nat_eq t u
is_same_caller (caller.Task t) (caller.Handler i) = false
is_same_caller (caller.Handler h) (caller.Task u) = false
is_same_caller (caller.Handler h) (caller.Handler i) = is_same_handler h i

abbrev pub is_same_actor : Option Caller → Option Caller → Bool
is_same_actor None None = true
is_same_actor None (Some b) = false
is_same_actor (Some a) None = false
is_same_actor (Some a) (Some b) = is_same_caller a b

-- the place of the processor that an event runs, if it runs one
abbrev pub run_place : Event → Option ℕ
run_place (Run zero) = None
run_place (Run (suc p)) = Some p
run_place Tick = None
run_place (Int i) = None

-- the place of the processor whose actor made a line
abbrev pub place_of : Line → Option ℕ
place_of (line.Call p who c reply) = Some p
place_of (line.End p who) = Some p
place_of (line.Fault p who fault) = Some p
place_of l = None

-- the place of the processor that a done event ran, by its lines: the first is its actor's call, end or fault
abbrev pub place_run : List Line → Option ℕ
place_run [] = None
place_run (l ∷ ls) = place_of l

-- whether an event that ran this processor, if any, and led from s to u counts for the one at place p: it ran that one,
-- or left it another actor than it found
abbrev pub counts : Option ℕ → KernelState → KernelState → ℕ → Bool
counts ran s u p =
    is_same_task ran (Some p) || not (is_same_actor (actor_of (processor_at s p)) (actor_of (processor_at u p)))

abbrev pub one_if : Bool → ℕ
one_if true = 1
one_if false = 0

-- the world after an event, by what it did
abbrev pub world_after : {C : Type 0} → World C → Reaction C → World C
world_after w Nothing = w
world_after w (Did d) = d.world
world_after w (Kept p v) = v

-- 1 where an event that did this in w counts for the processor at place p, else 0
abbrev pub counted : {C : Type 0} → Event → World C → Reaction C → (p : ℕ) → ℕ
counted e w Nothing p = 0
counted e w (Did d) p = one_if (counts (run_place e) w.state d.world.state p)
counted e w (Kept q v) p = one_if (counts (run_place e) w.state v.state p)

-- the stamp of the processor at place p after a run: how many of the events that are done or keep a place counted for
-- it
abbrev pub stamp : {C : Type 0} → SystemTables → Meaning C → (bound : ℕ) → World C → List Event → (p : ℕ) → ℕ
stamp sys M bound w [] p = 0
stamp sys M bound w (e ∷ es) p =
    counted e w (step sys M bound w e) p + stamp sys M bound (world_after w (step sys M bound w e)) es p

-- the run of the processor at place p, given how the stretch of its actor ends
abbrev pub applied_in : {C : Type 0} → SystemTables → Meaning C → World C → ℕ → Caller → Option (Held C) → Ending C
    → Reaction C
applied_in sys M w p who None x = Nothing
applied_in sys M w p who (Some (Awaits c)) x = Nothing
applied_in sys M w p who (Some (Goes c)) x = stretched sys M w p who x

abbrev pub applied_by : {C : Type 0} → SystemTables → Meaning C → World C → ℕ → Option Caller → Ending C → Reaction C
applied_by sys M w p None x = Nothing
applied_by sys M w p (Some who) x = applied_in sys M w p who (context_of w.contexts p who) x

-- the effect of an event `Run` of this processor's number, given how the stretch of its actor ends
abbrev pub applied : {C : Type 0} → SystemTables → Meaning C → World C → ℕ → Ending C → Reaction C
applied sys M w zero x = Nothing
applied sys M w (suc p) x = applied_by sys M w p (actor_of (processor_at w.state p)) x

-- a stretch of this actor within the bound ends in this way
abbrev pub EndsSo : {C : Type 0} → Meaning C → (bound : ℕ) → Ending C → Option (Going C) → Type 0
EndsSo M bound x None = Unit {0}
EndsSo M bound x (Some a) = x ≡ M.stretch a.entry bound a.context
