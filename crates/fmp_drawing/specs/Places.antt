-- Places and lengths of boxes, lines and texts.
use Rattle.std.specs.Prelude.{◌≡◌, ◌+◌, ℤ, pos, ◌+ℤ◌, ◌-ℤ◌, ◌&&◌, int_lt, List, [], ◌∷◌, All, Bool, false}
use Rattle.std.specs.Prelude.{if◌then◌else◌}
use Rattle.std.specs.Int.{int_max, int_min}
use Rattle.fmp_timeline.specs.declared.lengths.Tenths.{Tenths}
use Rattle.fmp_timeline.specs.declared.page.PanelSpan.{PanelSpan}
use Rattle.fmp_timeline.specs.Lengths.{pixels, tenths}
use Rattle.fmp_drawing.specs.declared.scene.TakenPixels.{TakenPixels}

-- a place moved to the right or down by this many tenths
abbrev pub plus : Tenths → (more : ℤ) → Tenths
plus place more = tenths (place.0 +ℤ more)

-- how far a place is from another
abbrev pub from : Tenths → Tenths → Tenths
from start end = tenths (end.0 -ℤ start.0)

-- the one that is farther to the right
abbrev pub later : Tenths → Tenths → Tenths
later a b = record { 0 = int_max a.0 b.0 }

-- where a text can begin at the left: four pixels after the state, and after the lead
abbrev pub text_start : PanelSpan → (left : Tenths) → Tenths
text_start span left = plus (later left (pixels (span.page.gutter + span.page.lead))) (pos 40)

-- a mark ends after a place of a lane and begins before another
abbrev pub stands_between : (left right : Tenths) → TakenPixels → Bool
stands_between left right t = int_lt left.0 t.to.0 && int_lt t.from.0 right.0

-- the beginning of a mark that stands there, if it is before a place
abbrev pub earlier : (left right : Tenths) → TakenPixels → (most : Tenths) → Tenths
earlier left right t most =
    if stands_between left right t then record { 0 = int_min most.0 t.from.0 } else most

abbrev pub earliest : (left right : Tenths) → List TakenPixels → (most : Tenths) → Tenths
earliest left right [] most = most
earliest left right (t ∷ ts) most = earliest left right ts (earlier left right t most)

-- and its end, if it is after a place
abbrev pub later_end : (left right : Tenths) → TakenPixels → (least : Tenths) → Tenths
later_end left right t least =
    if stands_between left right t then record { 0 = int_max least.0 t.to.0 } else least

abbrev pub latest : (left right : Tenths) → List TakenPixels → (least : Tenths) → Tenths
latest left right [] least = least
latest left right (t ∷ ts) least = latest left right ts (later_end left right t least)

-- no mark stands there
abbrev pub IsFree : (left right : Tenths) → List TakenPixels → Type 0
IsFree left right taken = All (λ t. stands_between left right t ≡ false) taken
