use Rattle.std.proofs.Common.{◌≡◌, drop}
use Rattle.fmp_schedules.specs.Monitors.{monitor_after}
use Rattle.fmp_schedules.proofs.monitor.Monitor.after.Given as goal

abbrev pub invariant-loop-line : goal.invariant-loop-line
invariant-loop-line l = monitor_after l.monitor (drop l.line-index l.lines) ≡ monitor_after l.self l.lines
