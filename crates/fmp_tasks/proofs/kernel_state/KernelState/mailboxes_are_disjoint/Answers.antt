use Rattle.fmp_tasks.proofs.kernel_state.KernelState.mailboxes_are_disjoint.Goals as goal

pub returns : goal.returns
returns c = rw (← c.self.view_is) c.lists_are_disjoint.ensures
