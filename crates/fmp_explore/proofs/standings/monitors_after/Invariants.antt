use Rattle.std.proofs.Common.{◌≡◌, take}
use Rattle.fmp_schedules.specs.Schedules as spec
use Rattle.fmp_explore.proofs.standings.monitors_after.Given as goal

abbrev pub invariant-loop-monitor : goal.invariant-loop-monitor
invariant-loop-monitor l =
    l.after.items ≡ spec.monitors_after (take l.monitor-index l.monitors) l.lines
