-- Runs that differ in the number of the clock at most.
use Rattle.std.specs.Prelude.{◌≡◌, map}
use Rattle.fmp_bisimulation.specs.Alike.{Alike}
use Rattle.fmp_bisimulation.specs.Closed.{all_timeless}
use Rattle.fmp_base.specs.Runs.{Trace}
use Rattle.fmp_base.specs.Systems.{SystemTables}

-- both have the same lines, but for the number of the clock, and end in alike worlds
pub record RunAlike {C : Type 0} (sys : SystemTables) (r s : Trace C) : Type 0 where
  pub lines : map all_timeless r.events ≡ map all_timeless s.events
  pub worlds : Alike sys r.world s.world
