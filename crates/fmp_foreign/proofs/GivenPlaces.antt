-- The processors that what comes runs.
use Rattle.std.proofs.Common.{ℕ, zero, suc, pos, Option, Some, None}
use Rattle.fmp_base.specs.declared.events.Event.TheVariants as event
use Rattle.fmp_base.specs.declared.bodies.Held.{Held}
use Rattle.fmp_base.specs.declared.bodies.Held.TheVariants.{Awaits, Goes}
use Rattle.fmp_base.specs.declared.states.Caller.{Caller}
use Rattle.fmp_base.specs.Meanings.{Meaning, World, context_of}
use Rattle.fmp_base.specs.States.{processor_at}
use Rattle.fmp_base.specs.Steps.{Reaction, Nothing, Did, Kept, actor_of, stretched}
use Rattle.fmp_base.specs.Stretches.{Ending}
use Rattle.fmp_base.specs.Systems.{SystemTables}
use Rattle.fmp_kernel.specs.Comings.{IsPlaceOf}
use Rattle.fmp_kernel.proofs.EventPlaces.{event_place}
use Rattle.fmp_foreign.specs.declared.foreign.LastTold.TheVariants as told
use Rattle.fmp_foreign.specs.Foreign.{foreign_meaning}
use Rattle.fmp_foreign.specs.Hosting.{ForeignKernel, reaction}
use Rattle.fmp_kernel.proofs.FrontLemmas.{RanOn, ran-stretched}
use Rattle.fmp_outside.specs.declared.given.Act.{Act}
use Rattle.fmp_outside.specs.declared.given.Given.{Given}
use Rattle.fmp_outside.specs.declared.given.Given.TheVariants as given
use Rattle.fmp_outside.specs.Outside.{ending_by, event_of}
use Rattle.fmp_worlds.specs.Stamps.{applied_by, applied_in, run_place}

ran_place : {C : Type 0} (o : Option ℕ) (r : Reaction C) → RanOn o r → IsPlaceOf o r
ran_place o Nothing h = tt
ran_place o (Did d) h = tt
ran_place o (Kept p w) h = h

-- the actor of a processor, if it goes on, is the one whose stretch ends
place_in : {C : Type 0} (sys : SystemTables) (M : Meaning C) (w : World C) (p : ℕ) (who : Caller)
    (o : Option (Held C)) (x : Ending C)
    → IsPlaceOf (Some p) (applied_in sys M w p who o x)
place_in sys M w p who None x = tt
place_in sys M w p who (Some (Awaits c)) x = tt
place_in sys M w p who (Some (Goes c)) x = ran_place (Some p) (stretched sys M w p who x)
    (ran-stretched sys M w p who x)

place_by : {C : Type 0} (sys : SystemTables) (M : Meaning C) (w : World C) (p : ℕ) (o : Option Caller) (x : Ending C)
    → IsPlaceOf (Some p) (applied_by sys M w p o x)
place_by sys M w p None x = tt
place_by sys M w p (Some who) x = place_in sys M w p who (context_of w.contexts p who) x

-- an act on a processor of this number
act_place : (k : ForeignKernel) (p : ℕ) (a : Act) → IsPlaceOf (run_place (event.Run p)) (reaction k (given.Act p a))
act_place k zero a = tt
act_place k (suc p) a =
    place_by k.system (foreign_meaning k.body) k.world p (actor_of (processor_at k.world.state p))
    (ending_by (told.Starts (pos 0)) a)

pub given_place : (k : ForeignKernel) (g : Given) → IsPlaceOf (run_place (event_of g)) (reaction k g)
given_place k (given.Act p a) = act_place k p a
given_place k given.Tick = event_place foreign_meaning k event.Tick
given_place k (given.Int i) = event_place foreign_meaning k (event.Int i)
