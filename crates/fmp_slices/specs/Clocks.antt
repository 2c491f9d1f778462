-- When the events of a run came.
use Rattle.std.specs.Prelude.{ℕ, List, [], ◌∷◌, Option, None, Some, get_or, max}

-- a time, or that before it where there is none or it goes back
abbrev pub later : ℕ → Option ℕ → ℕ
later before None = before
later before (Some time) = max before time

-- the times of events after one at this time
abbrev pub times_from : ℕ → List (Option ℕ) → List ℕ
times_from before [] = []
times_from before (t ∷ ts) = later before t ∷ times_from (later before t) ts

-- when an event came: where that is not known, at the microsecond of its number
abbrev pub time_at : (times : List ℕ) → (event : ℕ) → ℕ
time_at times event = get_or times event event
