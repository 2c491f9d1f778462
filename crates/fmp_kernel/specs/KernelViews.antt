-- What is seen of a kernel.
use Rattle.std.specs.Prelude.{◌≡◌, ℕ, zero, suc, ◌+◌, List, [], ◌∷◌, Option, Some, None, get_or, replicate}
use Rattle.fmp_base.specs.declared.bodies.Held.{Held}
use Rattle.fmp_base.specs.declared.events.Effect.{Effect}
use Rattle.fmp_base.specs.declared.events.Event.{Event}
use Rattle.fmp_base.specs.declared.events.Line.{Line}
use Rattle.fmp_base.specs.declared.events.Line.TheVariants as line
use Rattle.fmp_base.specs.declared.states.Caller.{Caller}
use Rattle.fmp_base.specs.Calls.{called}
use Rattle.fmp_base.specs.Meanings.{Contexts, Meaning, World, caller_body, context_of, with_context}
use Rattle.fmp_base.specs.States.{Progress, processor_at}
use Rattle.fmp_base.specs.Steps.{Done, Reaction, Nothing, Did, Kept, actor_of, call_made, effect_of, ended_with, step}
use Rattle.fmp_base.specs.Stretches.{Ending}
use Rattle.fmp_base.specs.Systems.{SystemTables}
use Rattle.fmp_base.specs.declared.stop.StretchStop.{StretchStop}
use Rattle.fmp_base.specs.declared.stop.StretchStop.TheVariants as stop
use Rattle.fmp_kernel.specs.declared.actors.Actor.{Actor}
use Rattle.fmp_contexts.specs.Contexts.{kept_after, stretched_from}
use Rattle.fmp_kernel.specs.Stamps.{stamped, stamped_by}
use Rattle.fmp_worlds.specs.Stamps.{Going, actor_at}

-- the runner of events: the bodies and their bound, the tables of the system, the state with the bodies' contexts, the
-- lines of what the event has caused so far, and those of the last event that did something (or of setup)
pub record RunnerView (B C : Type 0) : Type 0 where
  pub body : B
  pub bound : ℕ
  pub system : SystemTables
  pub world : World C
  pub caused : List Line
  pub lines : List Line

-- what no event changes
pub record SameBodies {B C : Type 0} (old new : RunnerView B C) : Type 0 where
  pub body : new.body ≡ old.body
  pub bound : new.bound ≡ old.bound
  pub system : new.system ≡ old.system

-- the same with these contexts of the bodies
abbrev pub kept_in : {B C : Type 0} → RunnerView B C → Contexts (Held C) → RunnerView B C
kept_in r cs = record r { world = record r.world { contexts = cs } }

-- the state, and what the event has caused on the way to it
abbrev pub progress_of : {B C : Type 0} → RunnerView B C → Progress
progress_of r = record { state = r.world.state; lines = r.caused }

-- the world, and the lines of the last event
abbrev pub done_of : {B C : Type 0} → RunnerView B C → Done C
done_of r = record { world = r.world; lines = r.lines }

-- what an event left, with these contexts of the bodies
abbrev pub with_contexts : {C : Type 0} → Done C → Contexts (Held C) → Done C
with_contexts d cs = record d { world = record d.world { contexts = cs } }

-- what an event left, or what was before where it did nothing; where it kept a place, the lines stay
abbrev pub done_or : {C : Type 0} → Done C → Reaction C → Done C
done_or d Nothing = d
done_or d (Did e) = e
done_or d (Kept p w) = record d { world = w }

-- an event that reacts so: what it answers, and the world and the lines after it; the bodies and the clock stay
pub record Reacts {B C : Type 0} (old new : RunnerView B C) (answer : Effect) (x : Reaction C) : Type 0 where
  pub effect : answer ≡ effect_of x
  pub after : done_of new ≡ done_or (done_of old) x
  pub bodies : SameBodies old new
  pub clock : new.world.state.clock ≡ old.world.state.clock

-- the effect of a stretch of the actor of p, given how it stopped, in a world that has what is kept of it then: the
-- call, end or fault is carried out
abbrev pub stopped_on : {C : Type 0} → SystemTables → Meaning C → World C → ℕ → Caller → StretchStop → Reaction C
stopped_on sys M w p who (stop.Call made) = call_made sys M w.contexts p who made (called sys w.state p who made)
stopped_on sys M w p who stop.End = Did (ended_with sys M w p who (line.End p who))
stopped_on sys M w p who (stop.Fault fault) = Did (ended_with sys M w p who (line.Fault p who fault))
stopped_on sys M w p who stop.Over = Kept p w

-- how the stretch of the caller on processor p ends
abbrev pub stretch_in : {B C : Type 0} → (B → Meaning C) → RunnerView B C → ℕ → Caller → Ending C
stretch_in meaning r p who =
    stretched_from (meaning r.body) (caller_body r.system r.world.contexts p who) r.bound
    (context_of r.world.contexts p who)

-- the same with what is kept of the caller on processor p after a stretch with this ending
abbrev pub with_stretch : {B C : Type 0} → RunnerView B C → ℕ → Caller → Ending C → RunnerView B C
with_stretch r p who x = kept_in r (with_context r.world.contexts p who (kept_after x))

-- a kernel: its bodies and their bound, the tables of its system, its state with the bodies' contexts, the lines of the
-- last event that was done (or of setup), how many events were done, how many it has taken, which are those and the
-- ones that kept a place, and by place the stamps of its processors
pub record KernelView (B C : Type 0) : Type 0 where
  pub body : B
  pub bound : ℕ
  pub system : SystemTables
  pub world : World C
  pub lines : List Line
  pub done : ℕ
  pub taken : ℕ
  pub stamps : List ℕ

-- a kernel with these stamps, that has done and taken this many events
abbrev pub kernel_of : {B C : Type 0} → RunnerView B C → List ℕ → (done taken : ℕ) → KernelView B C
kernel_of r stamps done taken =
    record {
      body = r.body;
      bound = r.bound;
      system = r.system;
      world = r.world;
      lines = r.lines;
      done = done;
      taken = taken;
      stamps = stamps;
    }

-- a kernel after setup
abbrev pub view_of_setup : {B C : Type 0} → B → ℕ → SystemTables → Done C → KernelView B C
view_of_setup body bound sys d =
    record {
      body = body;
      bound = bound;
      system = sys;
      world = d.world;
      lines = d.lines;
      done = 0;
      taken = 0;
      stamps = replicate sys.processors 0;
    }

-- a kernel after an event; where the event did nothing, the same
abbrev pub view_after : {B C : Type 0} → KernelView B C → Reaction C → KernelView B C
view_after k Nothing = k
view_after k (Did d) =
    record k {
      world = d.world;
      lines = d.lines;
      done = k.done + 1;
      taken = k.taken + 1;
      stamps = stamped d.lines k.world.state d.world.state k.stamps;
    }
view_after k (Kept p w) =
    record k {
      world = w;
      taken = k.taken + 1;
      stamps = stamped_by (Some p) k.world.state w.state k.stamps;
    }

-- a kernel after events, one after the other
abbrev pub view_after_all : {B C : Type 0} → (B → Meaning C) → KernelView B C → List Event → KernelView B C
view_after_all meaning k [] = k
view_after_all meaning k (e ∷ es) =
    view_after_all meaning (view_after k (step k.system (meaning k.body) k.bound k.world e)) es

-- an actor with the stamp of its processor
abbrev pub with_stamp : {C : Type 0} → ℕ → Option (Going C) → Option (Actor C)
with_stamp stamp None = None
with_stamp stamp (Some a) = Some (record { entry = a.entry; context = a.context; stamp = stamp })

-- the actor of the processor of this number, with its stamp
abbrev pub actor_in : {B C : Type 0} → KernelView B C → ℕ → Option (Actor C)
actor_in k zero = None
actor_in k (suc p) = with_stamp (get_or k.stamps p 0) (actor_at k.system k.world p)

-- the stamp that an actor has
abbrev pub stamp_of : {C : Type 0} → Option (Actor C) → Option ℕ
stamp_of None = None
stamp_of (Some a) = Some a.stamp

-- the processor of this number is not there, or neither a handler nor a task runs on it
abbrev pub HasNoActor : {B C : Type 0} → KernelView B C → ℕ → Type 0
HasNoActor k zero = Unit {0}
HasNoActor k (suc p) = actor_of (processor_at k.world.state p) ≡ None
