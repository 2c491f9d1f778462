-- Where a state stands in a lane.
use Rattle.std.specs.Prelude.{◌+◌, ℤ}
use Rattle.fmp_drawing.specs.declared.shapes.Rect.{Rect}
use Rattle.fmp_drawing.specs.declared.strips.Strip.{Strip}
use Rattle.fmp_drawing.specs.Lanes.{y_of}
use Rattle.fmp_drawing.specs.Places.{from, later}
use Rattle.fmp_timeline.specs.declared.lengths.Tenths.{Tenths}
use Rattle.fmp_timeline.specs.declared.page.PanelSpan.{PanelSpan}
use Rattle.fmp_timeline.specs.declared.tracks.Stay.{Stay}
use Rattle.fmp_timeline.specs.Lengths.{pixels}
use Rattle.fmp_timeline.specs.Pages.{left_of, right_of}

-- the box of a state, from the event that begins it to the one that ends it
abbrev pub stay_box : {S : Type 0} → PanelSpan → Strip → Stay S → (lower high : ℤ) → Rect
stay_box span strip stay lower high =
    record {
      x = left_of span stay.from;
      y = y_of strip lower;
      wide = from (left_of span stay.from) (right_of span stay.to);
      high = record { 0 = high };
    }

-- the text of a state stands after the lead
abbrev pub text_ends : {S : Type 0} → PanelSpan → Stay S → Tenths × Tenths
text_ends span stay =
    (later (left_of span stay.from) (pixels (span.page.gutter + span.page.lead)), right_of span stay.to)
