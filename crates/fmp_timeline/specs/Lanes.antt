-- What a panel shows of a task on a processor.
use Rattle.std.specs.Prelude.{Bool, ◌&&◌, ◌||◌, if◌then◌else◌}
use Rattle.fmp_timeline.specs.declared.lanes.Presence.{Presence}
use Rattle.fmp_timeline.specs.declared.lanes.Showing.{Showing}
use Rattle.fmp_timeline.specs.declared.lanes.Showing.TheVariants as showing

-- a task to which nothing happens has a lane only where there are few tasks and it is started
abbrev pub showing_of : (many : Bool) → Presence → Showing
showing_of many p =
    if p.leaves || p.is_here && p.is_awake then showing.Lane
    else if p.is_here
    then if many || p.is_dormant then showing.Count else showing.Lane
    else showing.Nothing
