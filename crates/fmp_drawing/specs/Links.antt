-- Where the line of a link ends.
use Rattle.std.specs.Prelude.{◌-ℤ◌, ℤ, pos, Bool, true, false}
use Rattle.fmp_drawing.specs.declared.strips.Strip.{Strip}
use Rattle.fmp_drawing.specs.Lanes.{y_of}
use Rattle.fmp_drawing.specs.Places.{plus}
use Rattle.fmp_timeline.specs.declared.lengths.Tenths.{Tenths}
use Rattle.fmp_timeline.specs.declared.marks.Bond.{Bond}
use Rattle.fmp_timeline.specs.declared.marks.Bond.TheVariants as bond
use Rattle.fmp_timeline.specs.Lengths.{pixels, tenths}

-- how far from the edge of the lane: at a start the box of the task, at a release the line of its wait
abbrev pub edge_of : Bond → ℤ
edge_of bond.Starts = pos 10
edge_of bond.Releases = pos 70
edge_of bond.Migrates = pos 30
edge_of bond.Changes = pos 30

-- a line that goes down ends at the upper edge, and one that goes up at the lower edge
abbrev pub link_end : Bond → Strip → (down : Bool) → Tenths
link_end b strip true = plus (y_of strip (pos 0)) (edge_of b)
link_end b strip false = tenths ((plus (y_of strip (pos 0)) (pixels strip.height).0).0 -ℤ edge_of b)
