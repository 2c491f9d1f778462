-- The real times of events, where they are known.
use Rattle.std.specs.Prelude.{ℕ, ◌-ℤ◌, ◌/◌, ◌%◌, List, [], ◌∷◌, ◌++◌, Option, None, Some, Bool, codes, decimal}
use Rattle.std.specs.Prelude.{if◌then◌else◌, length, nat_lt, pos, slice_get}
use Rattle.fmp_drawing.specs.Lanes.{lower}
use Rattle.fmp_timeline.specs.declared.lengths.Tenths.{Tenths}
use Rattle.fmp_timeline.specs.declared.page.PicturePage.{PicturePage}
use Rattle.fmp_timeline.specs.Lengths.{tenths}

abbrev pub are_known : (times : List ℕ) → Bool
are_known times = nat_lt 0 (length times)

-- the axis of a panel stands below the row of times, which is 14 pixels high
abbrev pub axis_top : (times : List ℕ) → (top : ℕ) → ℕ
axis_top times top = if are_known times then lower top 14 else top

-- what an event covers at the axis: where it begins, and its height
abbrev pub axis_area : (times : List ℕ) → (top : Tenths) → Tenths × Tenths
axis_area times top =
    if are_known times then (tenths (top.0 -ℤ pos 140), record { 0 = pos 440 }) else (top, record { 0 = pos 300 })

-- the decimal point, with the zeros that make three digits of what follows
abbrev pub point_text : (micros : ℕ) → List ℕ
point_text micros =
    if nat_lt micros 10 then codes ".00"
    else if nat_lt micros 100 then codes ".0"
    else codes "."

-- a time in milliseconds
abbrev pub millis_text : (micros : ℕ) → List ℕ
millis_text micros = decimal (micros / 1000) ++ (point_text (micros % 1000) ++ decimal (micros % 1000))

-- the dash between two of them is a character of three bytes
abbrev pub period_text : (from to : ℕ) → List ℕ
period_text from to = millis_text from ++ (226 ∷ 128 ∷ 147 ∷ millis_text to ++ codes " ms")

-- when an event came
abbrev pub time_line : Option ℕ → List ℕ
time_line None = []
time_line (Some time) = millis_text time ++ (codes " ms" ++ 10 ∷ [])

-- how long a state lasted
abbrev pub lasted_line : (from to : Option ℕ) → List ℕ
lasted_line (Some from) (Some to) = period_text from to ++ 10 ∷ []
lasted_line _ _ = []

-- of one that lasts to the end of the run, when it began
abbrev pub period_line : (times : List ℕ) → (from : ℕ) → (to : Option ℕ) → List ℕ
period_line times from None = time_line (slice_get times from)
period_line times from (Some to) = lasted_line (slice_get times from) (slice_get times to)

-- when the first and the last event of a picture came
abbrev pub between_text : (from to : Option ℕ) → List ℕ
between_text (Some from) (Some to) = 32 ∷ 194 ∷ 183 ∷ 32 ∷ period_text from to
between_text _ _ = []

abbrev pub extent_text : (times : List ℕ) → PicturePage → List ℕ
extent_text times page = between_text (slice_get times page.first) (slice_get times page.last)
