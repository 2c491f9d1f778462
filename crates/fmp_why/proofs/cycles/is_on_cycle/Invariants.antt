use Rattle.std.proofs.Common.{◌≡◌, ◌-◌, length}
use Rattle.fmp_why.specs.Cycles.{is_on_cycle, leads_to}
use Rattle.fmp_why.proofs.cycles.is_on_cycle.Given as goal

abbrev pub invariant-loop-step : goal.invariant-loop-step
invariant-loop-step l =
    leads_to l.blockers l.task (length l.blockers - l._step) l.at ≡ is_on_cycle l.blockers l.task
