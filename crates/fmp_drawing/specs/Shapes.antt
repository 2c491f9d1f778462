-- Boxes, and the hatches of tasks.
use Rattle.std.specs.Prelude.{ℕ, ◌%◌, ◌==◌, neg_ℤ, pos, List, Option, None, Some, codes, if◌then◌else◌, nat_lt}
use Rattle.fmp_drawing.specs.declared.shapes.Rect.{Rect}
use Rattle.fmp_drawing.specs.Places.{plus}
use Rattle.fmp_timeline.specs.declared.looks.BarLook.{BarLook}

-- a frame begins half a pixel later and ends half a pixel earlier than its box
abbrev pub framed : Rect → Rect
framed rect = record rect { x = plus rect.x (pos 5); wide = plus rect.wide (neg_ℤ (pos 10)) }

-- the hatch of a task, white on a dark colour and black on a light one
abbrev pub hatch_of : BarLook → Option (ℕ × List ℕ)
hatch_of look =
    if nat_lt 0 look.hatch
    then Some (look.hatch, if look.colour % 2 == 0 then codes "w" else codes "b")
    else None
