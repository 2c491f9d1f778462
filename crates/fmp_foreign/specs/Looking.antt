-- What is read of a hosted system after an event.
use Rattle.std.specs.Prelude.{ℕ, zero, suc, List, [], ◌∷◌, Option, Some, None, Bool, true, false}
use Rattle.std.specs.List.{list_any}
use Rattle.fmp_base.specs.declared.bodies.Held.{Held}
use Rattle.fmp_base.specs.declared.bodies.Held.TheVariants.{Goes, Awaits}
use Rattle.fmp_base.specs.declared.events.Line.{Line}
use Rattle.fmp_base.specs.declared.events.Line.TheVariants as line
use Rattle.fmp_base.specs.declared.states.Caller.{Caller}
use Rattle.fmp_base.specs.Meanings.{context_of}
use Rattle.fmp_base.specs.States.{KernelState, processor_at}
use Rattle.fmp_base.specs.Steps.{actor_of}
use Rattle.fmp_foreign.specs.declared.foreign.LastTold.{LastTold}
use Rattle.fmp_foreign.specs.declared.looking.Acting.{Acting}
use Rattle.fmp_foreign.specs.declared.looking.Bodies.{Bodies}
use Rattle.fmp_foreign.specs.Hosting.{ForeignKernel}

-- the caller, where it goes on from what it was told
abbrev pub acting_from : Caller → Option (Held LastTold) → Option Acting
acting_from who None = None
acting_from who (Some (Awaits t)) = None
acting_from who (Some (Goes t)) = Some (record { caller = who; told = t })

abbrev pub acting_by : ForeignKernel → ℕ → Option Caller → Option Acting
acting_by k p None = None
acting_by k p (Some who) = acting_from who (context_of k.world.contexts p who)

-- who acts on the processor of this number, and what it was told last
abbrev pub acting_on : ForeignKernel → ℕ → Option Acting
acting_on k zero = None
acting_on k (suc p) = acting_by k p (actor_of (processor_at k.world.state p))

-- the actor of the processor at this place
abbrev pub caller_at : KernelState → ℕ → Option Caller
caller_at s p = actor_of (processor_at s p)

-- the actors of the processors, in order
abbrev pub callers_in : KernelState → List (Option Caller)
callers_in s =
    caller_at s 0 ∷ caller_at s 1 ∷ caller_at s 2 ∷ caller_at s 3 ∷ caller_at s 4 ∷ caller_at s 5 ∷ caller_at s 6
    ∷ caller_at s 7 ∷ []

abbrev pub is_start : Line → Bool
is_start (line.Starts p t) = true
is_start l = false

abbrev pub is_begin : Line → Bool
is_begin (line.Begins p h) = true
is_begin l = false

abbrev pub is_end : Line → Bool
is_end (line.End p who) = true
is_end (line.Fault p who fault) = true
is_end l = false

-- what the lines of an event tell of bodies
abbrev pub bodies_of : List Line → Bodies
bodies_of lines =
    record {
      started = list_any is_start lines;
      began = list_any is_begin lines;
      ended = list_any is_end lines;
    }
