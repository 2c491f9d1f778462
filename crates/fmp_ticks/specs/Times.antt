-- Tables of times, and what is due.
use Rattle.std.specs.Prelude.{◌≡◌, ℕ, ◌+◌, ◌-◌, ◌^◌, ◌≤◌, min, List, [], ◌∷◌, Option, Some, None, IfSome, length}
use Rattle.std.specs.Prelude.{slice_index_or, if◌then◌else◌}
use Rattle.fmp_base.specs.Ticks.{is_due}
use Rattle.fmp_ticks.specs.declared.cyclics.Cyclics.TheInside.{Inside}

abbrev pub first_due_from : ℕ → ℕ → List (Option ℕ) → Option ℕ
first_due_from now i [] = None
first_due_from now i (time ∷ times) = if is_due now time then Some i else first_due_from now (i + 1) times

-- the least place whose time is now
abbrev pub first_due : ℕ → List (Option ℕ) → Option ℕ
first_due now times = first_due_from now 0 times

-- at most 255 places
abbrev pub IsShort : List (Option ℕ) → Type 0
IsShort times = length times ≤ 255

-- the lower of a time and another one, if there is one
abbrev pub lowered : ℕ → Option ℕ → ℕ
lowered least None = least
lowered least (Some time) = min time least

-- the least of these times, or the greatest number of 32 bits if there is none
abbrev pub least_time : List (Option ℕ) → ℕ
least_time [] = 2 ^ 32 - 1
least_time (time ∷ times) = lowered (least_time times) time

-- the due times of at most 255 handlers, with the least of them
pub record AreDueTimes (a : Inside) : Type 0 where
  pub few : IsShort a.due_times.items
  pub earliest : a.earliest ≡ least_time a.due_times.items

-- no time lies before now
abbrev pub NoneBefore : ℕ → List (Option ℕ) → Type 0
NoneBefore now times = (t : ℕ) → IfSome (slice_index_or times t None) (λ time. now ≤ time)
