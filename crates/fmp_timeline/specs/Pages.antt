-- Where the events of a picture stand.
use Rattle.std.specs.Prelude.{ℕ, ◌+◌, ◌-◌, ◌*◌, ◌^◌, Option, None, Some, Bool, ◌&&◌, if◌then◌else◌, max, min, nat_le}
use Rattle.std.specs.Prelude.{nat_lt}
use Rattle.fmp_timeline.specs.declared.lengths.Tenths.{Tenths}
use Rattle.fmp_timeline.specs.declared.page.PanelSpan.{PanelSpan}
use Rattle.fmp_timeline.specs.declared.page.PicturePage.{PicturePage}
use Rattle.fmp_timeline.specs.declared.tracks.Stay.{Stay}
use Rattle.fmp_timeline.specs.Lengths.{pixels}

-- the greatest number of an event
abbrev pub most : ℕ
most = 2 ^ 32 - 1

-- the last event that is drawn: at most 10000 events are
abbrev pub last_drawn : (end first last : ℕ) → ℕ
last_drawn end first last = max first (min (min last end) (first + 9999))

-- the first event of a panel, and the last one of the panel that begins with this one
abbrev pub panel_start : PicturePage → (panel : ℕ) → ℕ
panel_start page panel = min (page.first + min (page.per_panel * panel) most) most

abbrev pub panel_end : PicturePage → (first : ℕ) → ℕ
panel_end page first = min (min (first + (page.per_panel - 1)) most) page.last

-- an event is one of a panel
abbrev pub has : PanelSpan → ℕ → Bool
has span event = nat_le span.first event && nat_le event span.last

-- an event stands a column after the one before it, and the first one after the names and the lead
abbrev pub x_of : PanelSpan → (event : ℕ) → Tenths
x_of span event = pixels (span.page.gutter + span.page.lead + span.page.column * (event - span.first))

abbrev pub end_of : PanelSpan → Tenths
end_of span = x_of span (min (span.last + 1) most)

-- a state that began before the panel begins in the lead
abbrev pub left_of : PanelSpan → (from : ℕ) → Tenths
left_of span from = if nat_lt from span.first then pixels span.page.gutter else x_of span from

-- a state that lasts longer than the panel ends with it
abbrev pub right_of : PanelSpan → (to : Option ℕ) → Tenths
right_of span None = end_of span
right_of span (Some to) = if nat_le to span.last then x_of span to else end_of span
