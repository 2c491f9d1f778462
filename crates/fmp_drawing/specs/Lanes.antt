-- The lanes of a panel, and where they stand.
use Rattle.std.specs.Prelude.{◌≡◌, ℕ, ◌+◌, ◌-◌, ◌^◌, ℤ, pos, int_div, List, [], ◌∷◌, Option, None, Some}
use Rattle.std.specs.Prelude.{Bool, true, false}
use Rattle.std.specs.Prelude.{◌||◌, if◌then◌else◌, length, min, nat_lt}
use Rattle.fmp_base.specs.declared.states.Caller.{Caller}
use Rattle.fmp_base.specs.declared.states.Caller.TheVariants as caller
use Rattle.fmp_drawing.specs.declared.strips.Lane.{Lane}
use Rattle.fmp_drawing.specs.declared.strips.Lane.TheVariants as lane
use Rattle.fmp_drawing.specs.declared.strips.Strip.{Strip}
use Rattle.fmp_drawing.specs.declared.strips.Strips.{Strips}
use Rattle.fmp_drawing.specs.Places.{plus}
use Rattle.fmp_timeline.specs.declared.lengths.Tenths.{Tenths}
use Rattle.fmp_timeline.specs.Lengths.{pixels}

-- the task or handler to which a lane belongs
abbrev pub actor_of : Lane → Option Caller
actor_of (lane.Task t p) = Some (caller.Task t)
actor_of (lane.Handler h) = Some (caller.Handler h)
actor_of _ = None

-- the lanes at the head of a processor's group
abbrev pub is_head : Lane → Bool
is_head (lane.Processor p) = true
is_head (lane.Lock p) = true
is_head (lane.Dispatch p) = true
is_head _ = false

-- heights, in pixels
abbrev pub height_of : Lane → ℕ
height_of (lane.Processor p) = 28
height_of (lane.Lock p) = 12
height_of (lane.Dispatch p) = 12
height_of (lane.Handler h) = 18
height_of (lane.Task t p) = 22
height_of lane.ObjectsHead = 18
height_of (lane.Object place) = 18
height_of lane.Gap = 10

-- heights stop at the greatest number of 32 bits
abbrev pub lower : (height more : ℕ) → ℕ
lower height more = min (height + more) (2 ^ 32 - 1)

-- a lane that begins at a height
abbrev pub strip_at : (top : ℕ) → Lane → Strip
strip_at top l = record { lane = l; top = top; height = height_of l }

-- each lane has its height and begins where the one above it ends, from a top to a bottom
abbrev pub AreStacked : (top : ℕ) → List Strip → (bottom : ℕ) → Type 0
AreStacked top [] bottom = bottom ≡ top
AreStacked top (s ∷ ss) bottom = (s ≡ strip_at top s.lane) × AreStacked (lower top s.height) ss bottom

-- lanes that were stacked still are
abbrev pub KeepsStack : (old : List Strip) → (bottom : ℕ) → (new : List Strip) → (below : ℕ) → Type 0
KeepsStack old bottom new below = (top : ℕ) → AreStacked top old bottom → AreStacked top new below

-- the lower end of a panel, with a line for what has no lane
abbrev pub leaves_out : Strips → Bool
leaves_out s = nat_lt 0 (length s.asleep.items) || nat_lt 0 (length s.still.items)

abbrev pub end_of : Strips → ℕ
end_of s = if leaves_out s then lower s.bottom 14 else s.bottom

-- this many tenths below the top of a lane, and below its middle
abbrev pub y_of : Strip → (lower : ℤ) → Tenths
y_of strip lower = plus (pixels strip.top) lower

abbrev pub middle_of : Strip → (lower : ℤ) → Tenths
middle_of strip lower = plus (plus (pixels strip.top) (int_div (pixels strip.height).0 (pos 2))) lower
