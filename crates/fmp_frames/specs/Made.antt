-- Where the calls stand that a run makes.
use Rattle.std.specs.Prelude.{ℕ, ◌-◌, List, [], ◌∷◌, Option, Some, None}
use Rattle.fmp_base.specs.declared.events.Event.{Event}
use Rattle.fmp_base.specs.declared.events.Event.TheVariants.{Run, Tick, Int}
use Rattle.fmp_base.specs.Meanings.{Meaning}
use Rattle.fmp_base.specs.Steps.{Reaction, Nothing, Did, Kept}
use Rattle.fmp_base.specs.Stretches.{Ending}
use Rattle.fmp_base.specs.Stretches as ending
use Rattle.fmp_kernel.specs.Comings.{reaction_of}
use Rattle.fmp_instructions.specs.declared.instructions.MachineContext.{MachineContext}
use Rattle.fmp_instructions.specs.Instructions.{BodyTables}
use Rattle.fmp_kernel.specs.declared.actors.Actor.{Actor}
use Rattle.fmp_kernel.specs.KernelViews.{KernelView, actor_in, view_after}
use Rattle.fmp_frames.specs.declared.call_positions.CallPosition.{CallPosition}
use Rattle.fmp_frames.specs.declared.sites.CallSite.{CallSite}
use Rattle.fmp_frames.specs.CallPositions.{position_of}
use Rattle.fmp_frames.specs.Sites.{site}

-- the call that ends a stretch of a body: the context is after it then
abbrev pub ending_site : (body : ℕ) → Ending MachineContext → Option CallSite
ending_site body (ending.Call c call) = Some (site body (c.pc - 1))
ending_site body (ending.End c) = None
ending_site body (ending.Fault c fault) = None
ending_site body (ending.Over kept) = None

-- the call to which an actor comes next within a bound
abbrev pub actor_site : Meaning MachineContext → (bound : ℕ) → Option (Actor MachineContext) → Option CallSite
actor_site M bound None = None
actor_site M bound (Some a) = ending_site a.entry (M.stretch a.entry bound a.context)

-- the call that an event makes, where it makes one
abbrev pub event_site : {B : Type 0} → (B → Meaning MachineContext) → KernelView B MachineContext → Event
    → Option CallSite
event_site meaning k (Run p) = actor_site (meaning k.body) k.bound (actor_in k p)
event_site meaning k Tick = None
event_site meaning k (Int i) = None

-- where a call stands
abbrev pub site_position : List BodyTables → List (List CallPosition) → Option CallSite → Option CallPosition
site_position code bodies None = None
site_position code bodies (Some s) = position_of code bodies s.body s.pc

module _ {B : Type 0} (meaning : B → Meaning MachineContext) (code : List BodyTables)
    (bodies : List (List CallPosition)) where
  -- where the call stands that an event makes, where it makes one
  abbrev pub event_position : KernelView B MachineContext → Event → Option CallPosition
  event_position k e = site_position code bodies (event_site meaning k e)

  -- what stands for an event that did this, in front of what stands for those after it
  abbrev pub in_front : Option CallPosition → Reaction MachineContext → List (Option CallPosition)
      → List (Option CallPosition)
  in_front position Nothing rest = rest
  in_front position (Did d) rest = position ∷ rest
  in_front position (Kept p w) rest = rest

  -- for each event that is done where the call stands that it makes
  abbrev pub positions_made : KernelView B MachineContext → List Event → List (Option CallPosition)
  positions_made k [] = []
  positions_made k (e ∷ es) =
      in_front (event_position k e) (reaction_of meaning k e)
      (positions_made (view_after k (reaction_of meaning k e)) es)
