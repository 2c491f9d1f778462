use Rattle.std.proofs.Common.{sym}
use Rattle.fmp_tasks.specs.Tables.{tables_view}
use Rattle.fmp_tasks.proofs.kernel_state.KernelState.set_dispatch.Goals as goal

pub returns-clause-outcome : goal.returns-clause-outcome
returns-clause-outcome c = rw (← c.self.view_is) (sym (c.set_dispatch.ensures.outcome
    (tables_view c.self.inside).state))
