-- The parts of a run in its overview, and where they stand.
use Rattle.std.specs.Prelude.{ℕ, ◌-◌, ◌*◌, ◌/◌, ◌==◌, ◌+ℤ◌, Option, None, Some, if◌then◌else◌, min}
use Rattle.fmp_base.specs.declared.states.Caller.{Caller}
use Rattle.fmp_base.specs.declared.states.Caller.TheVariants as caller
use Rattle.fmp_drawing.specs.declared.overview.Bins.{Bins}
use Rattle.fmp_timeline.specs.declared.lengths.Tenths.{Tenths}
use Rattle.fmp_timeline.specs.declared.page.PicturePage.{PicturePage}
use Rattle.fmp_timeline.specs.declared.run.Run.{Run}
use Rattle.fmp_timeline.specs.Events.{next_event}
use Rattle.fmp_timeline.specs.Lengths.{factor, pixels, tenths}
use Rattle.fmp_timeline.specs.Pages.{most}

-- a number times a fraction
abbrev pub part : (number count of : ℕ) → ℕ
part number count of = if of == 0 then 0 else min (number * count / of) most

-- the overview goes from the names to the right end; a part has at least two pixels and at least one event
abbrev pub wide_of : PicturePage → ℕ
wide_of page = page.wide - page.gutter - 26

abbrev pub bins_of : PicturePage → Run → Bins
bins_of page run =
    record {
      events = next_event run;
      bins = min (next_event run) (wide_of page / 2);
      left = pixels page.gutter;
      wide = wide_of page;
    }

-- the first event of a part
abbrev pub start_of : Bins → (bin : ℕ) → ℕ
start_of b bin = part b.events bin b.bins

-- where the one of this number stands, of this many
abbrev pub x_at : Bins → (number of : ℕ) → Tenths
x_at b number of = tenths (b.left.0 +ℤ factor (part (min (b.wide * 10) most) number of))

-- a part shows the task that runs in most of its events at its number, or a handler, or nothing
abbrev pub kind_of : Option Caller → ℕ
kind_of None = 256
kind_of (Some (caller.Handler h)) = 255
kind_of (Some (caller.Task t)) = t
