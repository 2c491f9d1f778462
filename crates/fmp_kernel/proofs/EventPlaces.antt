-- The processors that events run.
use Rattle.std.proofs.Common.{ℕ, Option}
use Rattle.fmp_base.specs.declared.events.Event.{Event}
use Rattle.fmp_base.specs.Meanings.{Meaning}
use Rattle.fmp_base.specs.Steps.{Reaction, Nothing, Did, Kept}
use Rattle.fmp_kernel.specs.Comings.{IsPlaceOf, reaction_of}
use Rattle.fmp_kernel.specs.KernelViews.{KernelView}
use Rattle.fmp_kernel.proofs.FrontLemmas.{Names, step_names}
use Rattle.fmp_worlds.specs.Stamps.{run_place}

-- the processor that a reaction names is the one whose actor keeps its place
pub named_place : {C : Type 0} (o : Option ℕ) (r : Reaction C) → Names o r → IsPlaceOf o r
named_place o Nothing h = tt
named_place o (Did d) h = tt
named_place o (Kept p w) h = h

pub event_place : {B C : Type 0} (meaning : B → Meaning C) (k : KernelView B C) (e : Event)
    → IsPlaceOf (run_place e) (reaction_of meaning k e)
event_place meaning k e =
    named_place (run_place e) (reaction_of meaning k e) (step_names k.system (meaning k.body) k.bound k.world e)
