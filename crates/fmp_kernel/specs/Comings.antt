-- What comes to a kernel, one after the other.
use Rattle.std.specs.Prelude.{◌≡◌, ℕ, List, [], ◌∷◌, Option, Some}
use Rattle.fmp_base.specs.declared.events.Event.{Event}
use Rattle.fmp_base.specs.Meanings.{Meaning}
use Rattle.fmp_base.specs.Steps.{Reaction, Nothing, Did, Kept, step}
use Rattle.fmp_kernel.specs.KernelViews.{KernelView, view_after}

-- what an event does to a kernel
abbrev pub reaction_of : {B C : Type 0} → (B → Meaning C) → KernelView B C → Event → Reaction C
reaction_of meaning k e = step k.system (meaning k.body) k.bound k.world e

-- a kernel after what came to it, where this says what each does
abbrev pub view_after_each : {B C X : Type 0} → (KernelView B C → X → Reaction C) → KernelView B C → List X
    → KernelView B C
view_after_each reaction k [] = k
view_after_each reaction k (x ∷ xs) = view_after_each reaction (view_after k (reaction k x)) xs

-- if the actor of a processor keeps its place, it is this processor
abbrev pub IsPlaceOf : {C : Type 0} → Option ℕ → Reaction C → Type 0
IsPlaceOf place Nothing = Unit {0}
IsPlaceOf place (Did d) = Unit {0}
IsPlaceOf place (Kept p w) = place ≡ Some p
