-- What a picture is made from.
use Rattle.std.specs.Prelude.{ℕ, ◌||◌, List, Option, None, Some, Bool, get_or, nat_lt, slice_get}
use Rattle.fmp_base.specs.declared.states.Caller.{Caller}
use Rattle.fmp_timeline.specs.declared.looks.BarLook.{BarLook}
use Rattle.fmp_timeline.specs.declared.page.PicturePage.{PicturePage}
use Rattle.fmp_timeline.specs.declared.run.Deeds.{Deeds}
use Rattle.fmp_timeline.specs.declared.run.Run.{Run}
use Rattle.fmp_timeline.specs.Events.{last_event, place_of}

-- there is an overview with three panels or more, and where only a part of the run is drawn
abbrev pub has_overview : PicturePage → Run → Bool
has_overview page run = nat_lt 2 page.panels || nat_lt 0 page.first || nat_lt page.last (last_event run)

-- what an actor of a lane did, and what was done to it
abbrev pub deeds_of : Run → Option Caller → Option Deeds
deeds_of run None = None
deeds_of run (Some actor) = slice_get run.deeds.items (place_of actor)

-- the look of a task; that of a missing one is the first colour without a hatch
abbrev pub look_at : List BarLook → (task : ℕ) → BarLook
look_at looks task = get_or looks task (record { colour = 0; hatch = 0 })
