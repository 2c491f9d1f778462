use Rattle.std.proofs.Common.{◌+◌, ◌≤◌, length}
use Rattle.fmp_base.specs.Queues.{priority_in}
use Rattle.fmp_ring.specs.Places.{Walked}
use Rattle.fmp_ring.specs.RingLists.{list_at, from_node}
use Rattle.fmp_waitq.proofs.place.place_from.Given as goal

abbrev pub invariant-loop-at : goal.invariant-loop-at
invariant-loop-at l =
    let list = list_at l.rings.lists l.head in
    record {
      walked : Walked (priority_in l.blocks) l.t list l.at;
      least : l.fn.steps ≤ l.steps;
      most : l.steps + length (from_node l.at list) ≤ l.fn.steps + length list;
    }

abbrev pub decreases-loop-at : goal.decreases-loop-at
decreases-loop-at l = length (from_node l.at (list_at l.rings.lists l.head))
