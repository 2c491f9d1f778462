-- The wait queues among lent lists: after sixteen ready queues for each processor, those of semaphores, eventflags,
-- senders, receivers and mailboxes.
use Rattle.std.specs.Prelude.{ℕ, ◌+◌, ◌*◌, ◌<◌, ◌≤◌, ◌^◌, List, length, slice_set}
use Rattle.fmp_base.specs.declared.states.WaitQueue.{WaitQueue}
use Rattle.fmp_base.specs.declared.states.WaitQueue.TheVariants as queue
use Rattle.fmp_ring.specs.RingLists.{RingLists, list_at}
use Rattle.fmp_waitq.specs.declared.queues.ObjectCounts.{ObjectCounts}
use Rattle.fmp_waitq.specs.declared.queues.WaitQueues.{WaitQueues}

abbrev pub count_of_lists : ObjectCounts → ℕ
count_of_lists n = n.semaphores + n.flags + n.data_queues + n.data_queues + n.mailboxes

-- the place of the list of a queue among the wait queues
abbrev pub place_of : ObjectCounts → WaitQueue → ℕ
place_of n (queue.Semaphore s) = s
place_of n (queue.Flag f) = n.semaphores + f
place_of n (queue.Senders d) = n.semaphores + n.flags + d
place_of n (queue.Receivers d) = n.semaphores + n.flags + n.data_queues + d
place_of n (queue.Mailbox x) = n.semaphores + n.flags + n.data_queues + n.data_queues + x

-- the head of the list of a queue
abbrev pub head : WaitQueues → WaitQueue → ℕ
head w q = w.processors * 16 + place_of w.counts q

-- a queue of an object that exists
abbrev pub IsThere : ObjectCounts → WaitQueue → Type 0
IsThere n (queue.Semaphore s) = s < n.semaphores
IsThere n (queue.Flag f) = f < n.flags
IsThere n (queue.Senders d) = d < n.data_queues
IsThere n (queue.Receivers d) = d < n.data_queues
IsThere n (queue.Mailbox x) = x < n.mailboxes

-- the lists have one for each queue, of tasks with numbers of one byte
pub record AreLent (w : WaitQueues) (r : RingLists) : Type 0 where
  pub few : r.nodes ≤ 2 ^ 8
  pub heads : w.processors * 16 + count_of_lists w.counts ≤ length r.lists

abbrev pub queue_at : WaitQueues → RingLists → WaitQueue → List ℕ
queue_at w r q = list_at r.lists (head w q)

-- one queue becomes another; the other lists stay
abbrev pub with_queue : WaitQueues → RingLists → WaitQueue → List ℕ → RingLists
with_queue w r q ts = record r { lists = slice_set r.lists (head w q) ts }
