-- The times of a run, where they are known.
use Rattle.std.specs.Prelude.{ℕ, List, [], ◌∷◌, Option, Some, None, Bool, true, false, ◌&&◌, if◌then◌else◌, map}

abbrev pub is_known : Option ℕ → Bool
is_known None = false
is_known (Some t) = true

abbrev pub or_zero : Option ℕ → ℕ
or_zero None = 0
or_zero (Some t) = t

abbrev pub are_known : List (Option ℕ) → Bool
are_known [] = true
are_known (t ∷ ts) = is_known t && are_known ts

-- there are events, and the time of each is known
abbrev pub has_times : List (Option ℕ) → Bool
has_times [] = false
has_times (t ∷ ts) = are_known (t ∷ ts)

-- the times of setup, which is at 0, and of the events, if these have times; else none
abbrev pub known_times : List (Option ℕ) → List ℕ
known_times ts = if has_times ts then 0 ∷ map or_zero ts else []
