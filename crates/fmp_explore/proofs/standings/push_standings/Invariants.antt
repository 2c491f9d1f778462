use Rattle.std.proofs.Common.{◌≡◌, ◌+◌, ◌*◌, ◌++◌, drop, length}
use Rattle.std.specs.List.{flat_map}
use Rattle.fmp_explore.specs.States.{monitor_numbers}
use Rattle.fmp_explore.proofs.standings.push_standings.Given as goal

abbrev pub invariant-loop-monitor : goal.invariant-loop-monitor
invariant-loop-monitor l =
    record {
      items :
          l.values.items ++ flat_map (λ m. monitor_numbers m) (drop l.monitor-index l.monitors)
          ≡ l.initial.values.items ++ flat_map (λ m. monitor_numbers m) l.monitors;
      length : length l.values.items ≡ length l.initial.values.items + 2 * l.monitor-index;
    }
