use Rattle.fmp_tasks.proofs.kernel_state.KernelState.order_is_standing.Goals as goal

pub returns-clause-distinct : goal.returns-clause-distinct
returns-clause-distinct c = rw (← c.self.view_is) c.self.invariant.tasks.distinct

pub returns-clause-standing : goal.returns-clause-standing
returns-clause-standing c = rw (← c.self.view_is) c.self.invariant.tasks.standing
