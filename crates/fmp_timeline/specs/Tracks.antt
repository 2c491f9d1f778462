-- The states of something over the events of a run, as its changes.
use Rattle.std.specs.Prelude.{ℕ, zero, suc, ◌+◌, ◌<◌, List, [], ◌∷◌, ◌++◌, length, Option, None, Some, Bool, false}
use Rattle.std.specs.Prelude.{if◌then◌else◌, count_by, nat_le, option_map, slice_get}
use Rattle.std.specs.List.{AllAdjacentBelow}
use Rattle.fmp_timeline.specs.declared.tracks.StateChange.{StateChange}
use Rattle.fmp_timeline.specs.declared.tracks.Stay.{Stay}
use Rattle.fmp_timeline.specs.declared.tracks.Track.{Track}

-- each change comes after the one before it
abbrev pub AreInOrder : {S : Type 0} → List (StateChange S) → Type 0
AreInOrder cs = AllAdjacentBelow (λ x y. x.event < y.event) cs (length cs)

-- how many changes come no later than an event
abbrev pub count_to : {S : Type 0} → (event : ℕ) → List (StateChange S) → ℕ
count_to event cs = count_by (λ c. nat_le c.event event) cs

-- the last of the first n
abbrev pub last_of : {A : Type 0} → ℕ → List A → Option A
last_of zero xs = None
last_of (suc n) xs = slice_get xs n

-- the state after an event: that of the last change that comes no later
abbrev pub state_at : {S : Type 0} → (event : ℕ) → List (StateChange S) → Option S
state_at event cs = option_map (λ c. c.state) (last_of (count_to event cs) cs)

-- the state after the last change
abbrev pub last_state : {S : Type 0} → List (StateChange S) → Option S
last_state cs = option_map (λ c. c.state) (last_of (length cs) cs)

-- the event of the first change
abbrev pub first_event : {S : Type 0} → List (StateChange S) → Option ℕ
first_event cs = option_map (λ c. c.event) (slice_get cs 0)

-- the states, each from its change to the next one
abbrev pub stays : {S : Type 0} → List (StateChange S) → List (Stay S)
stays [] = []
stays (c ∷ cs) = record { from = c.event; to = first_event cs; state = c.state } ∷ stays cs

-- those of a track
abbrev pub stays_of : {S : Type 0} → Track S → List (Stay S)
stays_of track = stays track.changes.items

-- there is a state, and it is this
abbrev pub is_state : {S : Type 0} → (same : S → S → Bool) → S → Option S → Bool
is_state same state None = false
is_state same state (Some old) = same old state

-- the changes after an event, where this is the state after it
abbrev pub shown : {S : Type 0} → (same : S → S → Bool) → (event : ℕ) → S → List (StateChange S) → List (StateChange S)
shown same event state cs =
    if is_state same state (last_state cs) then cs else cs ++ record { event = event; state = state } ∷ []
