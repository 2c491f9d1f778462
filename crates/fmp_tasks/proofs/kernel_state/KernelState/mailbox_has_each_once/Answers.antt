use Rattle.std.proofs.Common.{subst, ℕ}
use Rattle.fmp_ring.specs.Orders.{IsOrder}
use Rattle.fmp_ring.specs.RingLists.{list_at}
use Rattle.fmp_tasks.proofs.kernel_state.KernelState.mailbox_has_each_once.Goals as goal

pub returns : goal.returns
returns c =
    rw (← c.self.view_is)
    (subst (λ (n : ℕ). IsOrder n (list_at c.self.inside.mailboxes.lists c.args.x)) c.self.invariant.messages
    c.first.ensures.order)
