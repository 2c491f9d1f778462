-- How long the states of a track last, by the places of its changes.
use Rattle.std.proofs.Common.{◌≡◌, ℕ, zero, suc, ◌+◌, List, [], ◌∷◌, length, Option, Some, refl, ap}
use Rattle.std.proofs.Common.{add-one}
use Rattle.std.specs.Prelude.{option_map, slice_get}
use Rattle.fmp_timeline.specs.declared.tracks.StateChange.{StateChange}
use Rattle.fmp_timeline.specs.declared.tracks.Stay.{Stay}
use Rattle.fmp_timeline.specs.Tracks.{stays}

pub stays_length : {S : Type 0} (cs : List (StateChange S)) → length (stays cs) ≡ length cs
stays_length [] = refl
stays_length (c ∷ cs) = ap suc (stays_length cs)

abbrev stay_until : {S : Type 0} → Option (StateChange S) → StateChange S → Stay S
stay_until next c = record { from = c.event; to = option_map (λ d. d.event) next; state = c.state }

stays_get : {S : Type 0} (cs : List (StateChange S)) (i : ℕ) (next : Option (StateChange S))
    → slice_get cs (suc i) ≡ next
    → slice_get (stays cs) i ≡ option_map (stay_until next) (slice_get cs i)
stays_get [] i next is = refl
stays_get (c ∷ cs) zero next is = ap (λ n. Some (stay_until n c)) is
stays_get (c ∷ cs) (suc i) next is = stays_get cs i next is

-- each state is that of the change at its place, and lasts to the next change
pub stays_at : {S : Type 0} (cs : List (StateChange S)) (i : ℕ)
    → slice_get (stays cs) i
    ≡ option_map
    (λ c. record { from = c.event; to = option_map (λ d. d.event) (slice_get cs (i + 1)); state = c.state })
    (slice_get cs i)
stays_at cs i = rw add-one (stays_get cs i (slice_get cs (suc i)) refl)
