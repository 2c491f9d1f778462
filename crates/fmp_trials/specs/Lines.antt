-- Sentences that go by the lines of a run alone, or by its states alone.
use Rattle.std.specs.Prelude.{Bool, true, false, List, [], ◌∷◌}
use Rattle.fmp_base.specs.declared.events.Event.{Event}
use Rattle.fmp_base.specs.Meanings.{Meaning}
use Rattle.fmp_base.specs.States.{KernelState}
use Rattle.fmp_base.specs.Steps.{Reaction, Nothing, Did, Kept}
use Rattle.fmp_kernel.specs.Comings.{reaction_of}
use Rattle.fmp_kernel.specs.KernelViews.{KernelView, view_after}
use Rattle.fmp_monitors.specs.declared.sentence.Sentence.{Sentence}
use Rattle.fmp_monitors.specs.declared.sentence.Sentence.TheVariants as sentence

-- a sentence looks at no state, neither between events nor at the end
abbrev pub goes_by_lines : Sentence → Bool
goes_by_lines (sentence.Always c) = false
goes_by_lines (sentence.End s t) = false
goes_by_lines _ = true

-- a sentence looks at each state between events
abbrev pub goes_by_states : Sentence → Bool
goes_by_states (sentence.Always c) = true
goes_by_states _ = false

-- the state after an event that is done, and others
abbrev pub with_state_after : {C : Type 0} → Reaction C → List KernelState → List KernelState
with_state_after Nothing others = others
with_state_after (Did d) others = d.world.state ∷ others
with_state_after (Kept p w) others = others

-- the state after each event of a run that is done
abbrev pub states_after : {B C : Type 0} → (B → Meaning C) → KernelView B C → List Event → List KernelState
states_after meaning k [] = []
states_after meaning k (e ∷ es) =
    with_state_after (reaction_of meaning k e) (states_after meaning (view_after k (reaction_of meaning k e)) es)
