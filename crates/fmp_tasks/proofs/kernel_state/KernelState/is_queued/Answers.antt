use Rattle.std.proofs.Common.{◌∙◌}
use Rattle.fmp_ring.specs.LinkedLaws.{is_linked-queued}
use Rattle.fmp_tasks.proofs.kernel_state.KernelState.is_queued.Goals as goal

pub returns : goal.returns
returns c = rw (← c.self.view_is) (c.is_linked.ensures.value ∙ is_linked-queued c.args.g c.self.inside.mailboxes.lists)
