use Rattle.fmp_tasks.proofs.kernel_state.KernelState.interrupts_are_all_there.Goals as goal

pub returns : goal.returns
returns c = rw (← c.self.view_is) c.self.invariant.pending_interrupts
