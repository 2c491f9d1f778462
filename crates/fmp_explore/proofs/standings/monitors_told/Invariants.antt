use Rattle.std.proofs.Common.{take}
use Rattle.fmp_explore.specs.States.{AreMonitorsOf}
use Rattle.fmp_explore.proofs.standings.monitors_told.Given as goal

abbrev pub invariant-loop-monitor : goal.invariant-loop-monitor
invariant-loop-monitor l = AreMonitorsOf (take l.monitor-index l.monitors) l.told.items
