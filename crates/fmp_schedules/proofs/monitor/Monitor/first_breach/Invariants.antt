use Rattle.std.proofs.Common.{◌≡◌, drop, false, take}
use Rattle.fmp_schedules.specs.Monitors.{is_broken, monitor_after}
use Rattle.fmp_schedules.proofs.monitor.Monitor.first_breach.Given as goal

abbrev pub invariant-loop-place : goal.invariant-loop-place
invariant-loop-place l =
    record {
      broken : is_broken l.monitor (drop l.place l.lines) ≡ is_broken l.self l.lines;
      first : is_broken l.self (take l.place l.lines) ≡ false;
      monitor : l.monitor ≡ monitor_after l.self (take l.place l.lines);
    }
