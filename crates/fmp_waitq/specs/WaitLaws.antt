-- The lists of the wait queues stand among the lent ones, after those of the ready queues, and stay lent when a list
-- changes.
use Rattle.std.specs.Prelude.{ℕ, ◌*◌, ◌<◌, ◌≤◌, List, length, slice_set}
use Rattle.std.proofs.Common.{arith}
use Rattle.std.proofs.Math.ListN.{length-set}
use Rattle.fmp_base.specs.declared.states.WaitQueue.{WaitQueue}
use Rattle.fmp_base.specs.declared.states.WaitQueue.TheVariants as queue
use Rattle.fmp_ring.specs.RingLists.{RingLists}
use Rattle.fmp_waitq.specs.declared.queues.WaitQueues.{WaitQueues}
use Rattle.fmp_waitq.specs.WaitLists.{head, IsThere, AreLent}

pub head-below : (w : WaitQueues) (r : RingLists) (q : WaitQueue) → AreLent w r → IsThere w.counts q
    → head w q < length r.lists
head-below w r (queue.Semaphore s) a l = omega arith
head-below w r (queue.Flag f) a l = omega arith
head-below w r (queue.Senders d) a l = omega arith
head-below w r (queue.Receivers d) a l = omega arith
head-below w r (queue.Mailbox x) a l = omega arith

pub head-above : (w : WaitQueues) (q : WaitQueue) → w.processors * 16 ≤ head w q
head-above w q = omega arith

pub AreLent-kept : (w : WaitQueues) (r : RingLists) (h : ℕ) (ts : List ℕ) → AreLent w r
    → AreLent w (record r { lists = slice_set r.lists h ts })
AreLent-kept w r h ts a = record { few = a.few; heads = rw (length-set r.lists h ts) a.heads }
