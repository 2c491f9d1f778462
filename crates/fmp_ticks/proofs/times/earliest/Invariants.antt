use Rattle.std.proofs.Common.{◌≡◌, ◌≤◌, ◌-◌, ◌^◌, drop, min}
use Rattle.fmp_ticks.specs.Times.{least_time}
use Rattle.fmp_ticks.proofs.times.earliest.Given as goal

-- the lower of the least time so far and the least of those left is that of all
abbrev pub invariant-loop-time : goal.invariant-loop-time
invariant-loop-time l =
    record {
      least : min l.least (least_time (drop l.time-index l.times)) ≡ least_time l.times;
      fits : l.least ≤ 2 ^ 32 - 1;
    }
