-- Who stands behind whom.
use Rattle.std.specs.Prelude.{ℕ, List, [], Option, get_or, length}
use Rattle.fmp_base.specs.States.{KernelState}
use Rattle.fmp_base.specs.Systems.{SystemTables}
use Rattle.fmp_ring.specs.Orders.{IsOrder}
use Rattle.fmp_ring.specs.RingLists.{follower}
use Rattle.fmp_tasks.specs.Holding.{messages_holding, queue_holding}
use Rattle.fmp_tasks.specs.Homes.{Standing}

-- the task that stands behind task t in its queue, if any
abbrev pub task_behind : SystemTables → KernelState → ℕ → Option ℕ
task_behind sys s t = follower t (queue_holding sys s t)

-- each task that is ready or waiting stands in the order, once
pub record IsOrderly (s : KernelState) : Type 0 where
  pub distinct : IsOrder (length s.tasks) s.order
  pub standing : Standing s.tasks s.order

-- the messages in a mailbox, the first one first
abbrev pub mailbox_at : KernelState → ℕ → List ℕ
mailbox_at s x = get_or s.mailboxes x []

-- the message behind message g in its mailbox, if any
abbrev pub message_behind : KernelState → ℕ → Option ℕ
message_behind s g = follower g (messages_holding s.mailboxes g)
