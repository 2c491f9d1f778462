use Rattle.std.proofs.Math.ListN.{length-set}
use Rattle.std.proofs.Common.{◌≡◌, ◌<◌, ◌∙◌, ap, arith, true}
use Rattle.fmp_ring.specs.Chains.{lists_of}
use Rattle.fmp_ring.specs.RingLists.{is_linked}
use Rattle.fmp_ring.proofs.LinkLemmas.{AreRings-node, AreRings-meets, AreRings-without, AreRings-leaves, lists_for}
use Rattle.fmp_ring.specs.LinkedLaws.{is_linked-without}
use Rattle.fmp_ring.proofs.rings.Rings.remove.Goals as goal

pub get-before-requires : goal.get-before-requires
get-before-requires c =
    let there : is_linked c.args.x (lists_of c.self.inside.nodes c.self.inside.heads c.self.inside.next)
    ≡ true = rw (← c.self.view_is) at c.requires in
    let low : c.args.x < c.self.inside.nodes = AreRings-node _ _ _ _ _ c.self.invariant there in
    omega arith

pub get-after-requires : goal.get-after-requires
get-after-requires c =
    let there : is_linked c.args.x (lists_of c.self.inside.nodes c.self.inside.heads c.self.inside.next)
    ≡ true = rw (← c.self.view_is) at c.requires in
    let low : c.args.x < c.self.inside.nodes = AreRings-node _ _ _ _ _ c.self.invariant there in
    omega arith

pub set-requires : goal.set-requires
set-requires c =
    let there : is_linked c.args.x (lists_of c.self.inside.nodes c.self.inside.heads c.self.inside.next)
    ≡ true = rw (← c.self.view_is) at c.requires in
    let low : c.args.x < c.self.inside.nodes = AreRings-node _ _ _ _ _ c.self.invariant there in
    omega arith

pub link-requires-clause-from : goal.link-requires-clause-from
link-requires-clause-from c =
    let there : is_linked c.args.x (lists_of c.self.inside.nodes c.self.inside.heads c.self.inside.next)
    ≡ true = rw (← c.self.view_is) at c.requires in
    rw (c.set.ensures.links, length-set, c.get-before.ensures.link, c.self.invariant.next_count)
    (AreRings-meets _ _ _ _ _ c.self.invariant there).before

pub link-requires-clause-to : goal.link-requires-clause-to
link-requires-clause-to c =
    let there : is_linked c.args.x (lists_of c.self.inside.nodes c.self.inside.heads c.self.inside.next)
    ≡ true = rw (← c.self.view_is) at c.requires in
    rw (c.get-after.ensures.link, c.self.invariant.previous_count) (AreRings-meets _ _ _ _ _ c.self.invariant
    there).after

pub invariant_of-self : goal.invariant_of-self
invariant_of-self c =
    let there : is_linked c.args.x (lists_of c.self.inside.nodes c.self.inside.heads c.self.inside.next)
    ≡ true = rw (← c.self.view_is) at c.requires in
    rw (
      c.link.ensures.next,
      c.set.ensures.links,
      c.link.ensures.previous,
      c.get-before.ensures.link,
      c.get-after.ensures.link,
    )
    (AreRings-without _ _ _ _ _ c.self.invariant there).1

pub returns-clause-lists : goal.returns-clause-lists
returns-clause-lists c =
    let there : is_linked c.args.x (lists_of c.self.inside.nodes c.self.inside.heads c.self.inside.next)
    ≡ true = rw (← c.self.view_is) at c.requires in
    rw (← c.self.view_is, c.link.ensures.next, c.set.ensures.links, c.get-before.ensures.link, c.get-after.ensures.link)
    (ap (lists_for c.self.inside.nodes) (AreRings-without _ _ _ _ _ c.self.invariant there).0)

pub returns-clause-one : goal.returns-clause-one
returns-clause-one c =
    let there : is_linked c.args.x (lists_of c.self.inside.nodes c.self.inside.heads c.self.inside.next)
    ≡ true = rw (← c.self.view_is) at c.requires in
    rw (← c.self.view_is, c.link.ensures.next, c.set.ensures.links, c.get-before.ensures.link, c.get-after.ensures.link)
    (λ h at_h. (AreRings-without _ _ _ _ _ c.self.invariant there).0
    ∙ AreRings-leaves _ _ _ _ h _ c.self.invariant at_h)

pub returns-clause-gone : goal.returns-clause-gone
returns-clause-gone c =
    let there : is_linked c.args.x (lists_of c.self.inside.nodes c.self.inside.heads c.self.inside.next)
    ≡ true = rw (← c.self.view_is) at c.requires in
    rw (
      c.link.ensures.next,
      c.set.ensures.links,
      c.get-before.ensures.link,
      c.get-after.ensures.link,
      (AreRings-without _ _ _ _ _ c.self.invariant there).0,
    )
    (is_linked-without c.args.x (lists_of c.self.inside.nodes c.self.inside.heads c.self.inside.next))
