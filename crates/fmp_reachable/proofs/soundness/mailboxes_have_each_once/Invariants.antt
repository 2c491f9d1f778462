use Rattle.std.proofs.Common.{◌<◌, ℕ, length}
use Rattle.fmp_base.specs.MailboxCalls.{messages_at}
use Rattle.fmp_ring.specs.Orders.{IsOrder}
use Rattle.fmp_reachable.proofs.soundness.mailboxes_have_each_once.Given as goal

abbrev pub invariant-loop-x : goal.invariant-loop-x
invariant-loop-x l =
    (y : ℕ) → y < l.x → IsOrder (length l.tables.system.messages) (messages_at l.tables.state y)
