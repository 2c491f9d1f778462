use Rattle.std.proofs.Common.{length}
use Rattle.fmp_ring.specs.RingLists.{list_at, from_node}
use Rattle.fmp_tasks.proofs.WalkLemmas.{Past}
use Rattle.fmp_tasks.proofs.messages.length_of.Given as goal

abbrev pub invariant-loop-at : goal.invariant-loop-at
invariant-loop-at l = Past (list_at l.rings.lists l.x) l.at l.count

abbrev pub decreases-loop-at : goal.decreases-loop-at
decreases-loop-at l = length (from_node l.at (list_at l.rings.lists l.x))
