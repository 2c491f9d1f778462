use Rattle.std.proofs.Common.{◌≡◌, ◌-◌, length}
use Rattle.std.specs.Prelude.{min}
use Rattle.fmp_why.specs.Cycles.{cycle_from, first_on_cycle}
use Rattle.fmp_why.proofs.cycles.first_on_cycle.Given as goal

abbrev pub invariant-loop-task : goal.invariant-loop-task
invariant-loop-task l =
    cycle_from l.blockers l.task (min (length l.blockers) 255 - l.task) ≡ first_on_cycle l.blockers
