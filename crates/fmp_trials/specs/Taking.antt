-- What a kernel comes to that takes events.
use Rattle.std.specs.Prelude.{◌≡◌, Bool, true, false, List}
use Rattle.fmp_base.specs.declared.events.Event.{Event}
use Rattle.fmp_base.specs.Meanings.{Meaning}
use Rattle.fmp_base.specs.Runs.{taken_events}
use Rattle.fmp_base.specs.Steps.{Reaction, Nothing, Did, Kept, IsTaken}
use Rattle.fmp_kernel.specs.Comings.{reaction_of}
use Rattle.fmp_kernel.specs.KernelViews.{KernelView, view_after}

-- this event came to a kernel, which took it: it is done, or keeps a place
pub record Takes {B C : Type 0} (meaning : B → Meaning C) (before after : KernelView B C) (e : Event) : Type 0 where
  pub taken : IsTaken (reaction_of meaning before e)
  pub view : after ≡ view_after before (reaction_of meaning before e)

-- an event that does this is taken
abbrev pub is_taken : {C : Type 0} → Reaction C → Bool
is_taken Nothing = false
is_taken (Did d) = true
is_taken (Kept p w) = true

-- a kernel takes this event
abbrev pub takes_in : {B C : Type 0} → (B → Meaning C) → KernelView B C → Event → Bool
takes_in meaning k e = is_taken (reaction_of meaning k e)

-- a kernel takes each of these events, one after the other
abbrev pub TakesAll : {B C : Type 0} → (B → Meaning C) → KernelView B C → List Event → Type 0
TakesAll meaning k es = taken_events k.system (meaning k.body) k.bound k.world es ≡ es
