use Rattle.std.proofs.Common.{◌≡◌, drop}
use Rattle.fmp_schedules.specs.Monitors.{all_let}
use Rattle.fmp_schedules.proofs.monitor.all_let.Given as goal

abbrev pub invariant-loop-monitor : goal.invariant-loop-monitor
invariant-loop-monitor l = all_let (drop l.monitor-index l.monitors) l.event ≡ all_let l.monitors l.event
