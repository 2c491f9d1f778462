use Rattle.std.proofs.Common.{length}
use Rattle.fmp_base.specs.MailboxCalls.{message_priority}
use Rattle.fmp_base.specs.Systems.{tables_of}
use Rattle.fmp_ring.specs.Places.{Walked}
use Rattle.fmp_ring.specs.RingLists.{list_at, from_node}
use Rattle.fmp_tasks.proofs.messages.place.Given as goal

abbrev pub invariant-loop-at : goal.invariant-loop-at
invariant-loop-at l = Walked (message_priority (tables_of l.sys)) l.g (list_at l.rings.lists l.x) l.at

abbrev pub decreases-loop-at : goal.decreases-loop-at
decreases-loop-at l = length (from_node l.at (list_at l.rings.lists l.x))
