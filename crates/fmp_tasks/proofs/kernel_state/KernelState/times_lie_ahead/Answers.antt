use Rattle.std.proofs.Common.{List, Option, subst, ℕ, ◌+◌}
use Rattle.fmp_ticks.specs.Times.{NoneBefore}
use Rattle.fmp_tasks.proofs.kernel_state.KernelState.times_lie_ahead.Goals as goal

pub returns-clause-deadlines : goal.returns-clause-deadlines
returns-clause-deadlines c =
    rw (← c.self.view_is)
    (subst (λ (ts : List (Option ℕ)). NoneBefore (c.self.inside.clock + 1) ts)
    c.self.invariant.tasks.deadlines_kept c.self.invariant.later)

pub returns-clause-due_times : goal.returns-clause-due_times
returns-clause-due_times c = rw (← c.self.view_is) c.self.invariant.due_later
