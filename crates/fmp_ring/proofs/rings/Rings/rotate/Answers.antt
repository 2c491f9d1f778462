use Rattle.std.proofs.Common.{◌≡◌, ◌<◌, ◌∙◌, sym, ap, Some, length}
use Rattle.fmp_base.specs.Queues.{first_of}
use Rattle.fmp_ring.specs.Chains.{lists_of}
use Rattle.fmp_ring.specs.RingLists.{list_at}
use Rattle.fmp_ring.proofs.RingLemmas.{popped-pushed}
use Rattle.fmp_ring.proofs.LinkLemmas.{AreRings-popped, lists_for}
use Rattle.fmp_ring.specs.LinkedLaws.{is_linked-without}
use Rattle.fmp_ring.proofs.rings.Rings.rotate.Goals as goal

pub push_back-requires-clause-free : goal.push_back-requires-clause-free
push_back-requires-clause-free c =
    let low : c.args.h < length (lists_of c.self.inside.nodes c.self.inside.heads c.self.inside.next) = rw
    (← c.self.view_is) at c.requires in
    let first : Some c.in-Some.x ≡ first_of (list_at (lists_of c.self.inside.nodes c.self.inside.heads
    c.self.inside.next) c.args.h) =
    rw (← c.self.view_is) at (sym c.in-Some.is ∙ c.pop_front.ensures.value) in
    rw (c.pop_front.ensures.lists, ← c.self.view_is, ← AreRings-popped _ _ _ _ _ _ c.self.invariant low first)
    (is_linked-without c.in-Some.x (lists_of c.self.inside.nodes c.self.inside.heads c.self.inside.next))

pub returns-in-Some-clause-lists : goal.returns-in-Some-clause-lists
returns-in-Some-clause-lists c =
    let first : Some c.in-Some.x ≡ first_of (list_at c.args.self.now.lists c.args.h) = sym c.in-Some.is
    ∙ c.pop_front.ensures.value in
    rw (c.push_back.ensures.lists, c.pop_front.ensures.lists) (ap (lists_for c.args.self.now.nodes)
    (popped-pushed _ _ _ c.requires first))
