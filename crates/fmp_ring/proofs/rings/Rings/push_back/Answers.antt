use Rattle.std.proofs.Common.{◌≡◌, ◌<◌, ap, arith, false}
use Rattle.std.proofs.Math.ListN.{length-set}
use Rattle.fmp_ring.specs.Chains.{lists_of}
use Rattle.fmp_ring.specs.RingLists.{is_linked}
use Rattle.fmp_ring.proofs.LinkLemmas.{length-lists_of, AreRings-end, AreRings-pushed, lists_for}
use Rattle.fmp_ring.proofs.rings.Rings.push_back.Goals as goal

pub overflow_add-head : goal.overflow_add-head
overflow_add-head c =
    let there : c.args.h < c.self.inside.heads = rw (← c.self.view_is, length-lists_of) at c.requires.head in
    omega arith

pub get-last-requires : goal.get-last-requires
get-last-requires c =
    let there : c.args.h < c.self.inside.heads = rw (← c.self.view_is, length-lists_of) at c.requires.head in
    omega arith

pub link-requires-clause-from : goal.link-requires-clause-from
link-requires-clause-from c =
    let there : c.args.h < c.self.inside.heads = rw (← c.self.view_is, length-lists_of) at c.requires.head in
    rw (c.get-last.ensures.link, c.self.invariant.next_count) (AreRings-end _ _ _ _ _ c.self.invariant there).1

pub link-requires-2-clause-to : goal.link-requires-2-clause-to
link-requires-2-clause-to c =
    let there : c.args.h < c.self.inside.heads = rw (← c.self.view_is, length-lists_of) at c.requires.head in
    rw (c.link.ensures.previous, length-set) (omega arith)

pub invariant_of-self : goal.invariant_of-self
invariant_of-self c =
    let there : c.args.h < c.self.inside.heads = rw (← c.self.view_is, length-lists_of) at c.requires.head in
    let free : is_linked c.args.x (lists_of c.self.inside.nodes c.self.inside.heads c.self.inside.next)
    ≡ false = rw (← c.self.view_is) at c.requires.free in
    let low : c.args.x < c.self.inside.nodes = rw (← c.self.view_is) at c.requires.node in
    rw (
      c.link-2.ensures.next,
      c.link-2.ensures.previous,
      c.link.ensures.next,
      c.link.ensures.previous,
      c.get-last.ensures.link,
    )
    (AreRings-pushed _ _ _ _ _ _ c.self.invariant low there free).1

pub returns-clause-lists : goal.returns-clause-lists
returns-clause-lists c =
    let there : c.args.h < c.self.inside.heads = rw (← c.self.view_is, length-lists_of) at c.requires.head in
    let free : is_linked c.args.x (lists_of c.self.inside.nodes c.self.inside.heads c.self.inside.next)
    ≡ false = rw (← c.self.view_is) at c.requires.free in
    let low : c.args.x < c.self.inside.nodes = rw (← c.self.view_is) at c.requires.node in
    rw (← c.self.view_is, c.link-2.ensures.next, c.link.ensures.next, c.get-last.ensures.link)
    (ap (lists_for c.self.inside.nodes) (AreRings-pushed _ _ _ _ _ _ c.self.invariant low there free).0)
