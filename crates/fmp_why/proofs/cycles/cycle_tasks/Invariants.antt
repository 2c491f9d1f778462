use Rattle.std.proofs.Common.{◌≡◌, ◌++◌, ◌-◌, Some, length}
use Rattle.fmp_why.specs.Cycles.{cycle_tasks}
use Rattle.fmp_why.proofs.cycles.cycle_tasks.Given as goal

abbrev pub invariant-loop-link : goal.invariant-loop-link
invariant-loop-link l =
    l.tasks.items ++ cycle_tasks l.blockers l.first (length l.blockers - l._link) l.at
    ≡ cycle_tasks l.blockers l.first (length l.blockers) (Some l.first)
