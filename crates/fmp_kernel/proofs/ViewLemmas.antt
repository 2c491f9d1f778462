-- A kernel after events, and one more.
use Rattle.std.proofs.Common.{◌≡◌, List, [], ◌∷◌, ◌++◌, refl}
use Rattle.fmp_base.specs.declared.events.Event.{Event}
use Rattle.fmp_base.specs.Meanings.{Meaning}
use Rattle.fmp_base.specs.Steps.{Reaction, step}
use Rattle.fmp_kernel.specs.KernelViews.{KernelView, view_after, view_after_all}

-- what an event does in what is seen of a kernel
abbrev pub reaction_in : {B C : Type 0} → (B → Meaning C) → KernelView B C → Event → Reaction C
reaction_in meaning k e = step k.system (meaning k.body) k.bound k.world e

pub view_last : {B C : Type 0} (meaning : B → Meaning C) (k : KernelView B C) (es : List Event) (e : Event)
    → view_after_all meaning k (es ++ e ∷ [])
    ≡ view_after (view_after_all meaning k es) (reaction_in meaning (view_after_all meaning k es) e)
view_last meaning k [] e = refl
view_last meaning k (x ∷ es) e = view_last meaning (view_after k (reaction_in meaning k x)) es e
