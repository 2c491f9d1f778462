use Rattle.std.proofs.Common.{◌≡◌, ◌++◌, drop, map}
use Rattle.fmp_schedules.specs.Monitors.{at_limit}
use Rattle.fmp_searching.proofs.limits.add_limits.Given as goal

abbrev pub invariant-loop-limit : goal.invariant-loop-limit
invariant-loop-limit l =
    l.monitors.items ++ map (λ x. at_limit x) (drop l.limit-index l.limits)
    ≡ l.initial.monitors.items ++ map (λ x. at_limit x) l.limits
