use Rattle.std.proofs.Common.{◌≡◌, ◌<◌, ◌∙◌, sym, ap, Some, length}
use Rattle.fmp_base.specs.Queues.{first_of}
use Rattle.fmp_ring.specs.Chains.{lists_of}
use Rattle.fmp_ring.specs.RingLists.{list_at}
use Rattle.fmp_ring.proofs.LinkLemmas.{AreRings-popped, lists_for}
use Rattle.fmp_ring.proofs.rings.Rings.pop_front.Goals as goal

pub returns-in-Some-clause-lists : goal.returns-in-Some-clause-lists
returns-in-Some-clause-lists c =
    let low : c.args.h < length (lists_of c.self.inside.nodes c.self.inside.heads c.self.inside.next) = rw
    (← c.self.view_is) at c.requires in
    let first : Some c.in-Some.x ≡ first_of (list_at (lists_of c.self.inside.nodes c.self.inside.heads
    c.self.inside.next) c.args.h) =
    rw (← c.self.view_is) at (sym c.in-Some.is ∙ c.first-first.ensures.value) in
    c.remove.ensures.lists ∙ rw (← c.self.view_is) (ap (lists_for c.self.inside.nodes)
    (AreRings-popped _ _ _ _ _ _ c.self.invariant low first))
