-- What holds of the wait queues of priority order before a task joins one.
use Rattle.std.specs.Prelude.{◌≡◌, ℕ, ◌<◌, ◌≤◌, List, Some, false, true, length, nat_eq}
use Rattle.fmp_base.specs.declared.states.TaskBlock.{TaskBlock}
use Rattle.fmp_base.specs.declared.states.WaitQueue.{WaitQueue}
use Rattle.fmp_base.specs.declared.systems.QueueOrder.TheVariants.{Priority}
use Rattle.fmp_base.specs.Queues.{order_of, priority_in, waits_in}
use Rattle.fmp_base.specs.States.{task_at}
use Rattle.fmp_base.specs.Systems.{SystemTables}
use Rattle.fmp_ring.specs.Orders.{IsOrder}
use Rattle.fmp_ring.specs.Places.{Walked}
use Rattle.fmp_ring.specs.RingLists.{RingLists}
use Rattle.fmp_waitq.specs.declared.queues.WaitQueues.{WaitQueues}
use Rattle.fmp_waitq.specs.WaitLists.{queue_at, IsThere}

-- none stands in a queue twice, and each but t that waits there and is as urgent stands behind none that is less urgent
-- than t
pub record IsOrdered (w : WaitQueues) (tasks : List TaskBlock) (rings : RingLists) (q : WaitQueue)
    (t : ℕ) : Type 0 where
  pub once : IsOrder rings.nodes (queue_at w rings q)
  pub behind :
      (u : ℕ) → u < length tasks → nat_eq u t ≡ false → waits_in q (task_at tasks u) ≡ true →
      priority_in tasks u ≤ priority_in tasks t → Walked (priority_in tasks) t (queue_at w rings q) (Some u)

-- so it is with each queue of priority order
pub record AreOrdered (w : WaitQueues) (sys : SystemTables) (tasks : List TaskBlock) (rings : RingLists) (t : ℕ)
    : Type 0 where
  pub each : (q : WaitQueue) → IsThere w.counts q → order_of sys q ≡ Priority → IsOrdered w tasks rings q t
