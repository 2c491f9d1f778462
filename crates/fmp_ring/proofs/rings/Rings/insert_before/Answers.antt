use Rattle.std.proofs.Common.{◌≡◌, ◌<◌, ◌∙◌, ap, arith, true, false}
use Rattle.std.proofs.Math.ListN.{length-set}
use Rattle.fmp_ring.specs.Chains.{lists_of}
use Rattle.fmp_ring.specs.RingLists.{is_linked}
use Rattle.fmp_ring.proofs.LinkLemmas.{AreRings-node, AreRings-meets, AreRings-before, AreRings-joins, lists_for}
use Rattle.fmp_ring.proofs.rings.Rings.insert_before.Goals as goal

pub get-before-requires : goal.get-before-requires
get-before-requires c =
    let there : is_linked c.args.at (lists_of c.self.inside.nodes c.self.inside.heads c.self.inside.next)
    ≡ true = rw (← c.self.view_is) at c.requires.there in
    let low : c.args.at < c.self.inside.nodes = AreRings-node _ _ _ _ _ c.self.invariant there in
    omega arith

pub link-requires-clause-from : goal.link-requires-clause-from
link-requires-clause-from c =
    let there : is_linked c.args.at (lists_of c.self.inside.nodes c.self.inside.heads c.self.inside.next)
    ≡ true = rw (← c.self.view_is) at c.requires.there in
    rw (c.get-before.ensures.link, c.self.invariant.next_count) (AreRings-meets _ _ _ _ _ c.self.invariant there).before

pub link-requires-2-clause-to : goal.link-requires-2-clause-to
link-requires-2-clause-to c =
    let there : is_linked c.args.at (lists_of c.self.inside.nodes c.self.inside.heads c.self.inside.next)
    ≡ true = rw (← c.self.view_is) at c.requires.there in
    let low : c.args.at < c.self.inside.nodes = AreRings-node _ _ _ _ _ c.self.invariant there in
    rw (c.link.ensures.previous, length-set) (omega arith)

pub invariant_of-self : goal.invariant_of-self
invariant_of-self c =
    let there : is_linked c.args.at (lists_of c.self.inside.nodes c.self.inside.heads c.self.inside.next)
    ≡ true = rw (← c.self.view_is) at c.requires.there in
    let free : is_linked c.args.x (lists_of c.self.inside.nodes c.self.inside.heads c.self.inside.next)
    ≡ false = rw (← c.self.view_is) at c.requires.free in
    let low : c.args.x < c.self.inside.nodes = rw (← c.self.view_is) at c.requires.node in
    rw (
      c.link-2.ensures.next,
      c.link-2.ensures.previous,
      c.link.ensures.next,
      c.link.ensures.previous,
      c.get-before.ensures.link,
    )
    (AreRings-before _ _ _ _ _ _ c.self.invariant low free there).1

pub returns-clause-lists : goal.returns-clause-lists
returns-clause-lists c =
    let there : is_linked c.args.at (lists_of c.self.inside.nodes c.self.inside.heads c.self.inside.next)
    ≡ true = rw (← c.self.view_is) at c.requires.there in
    let free : is_linked c.args.x (lists_of c.self.inside.nodes c.self.inside.heads c.self.inside.next)
    ≡ false = rw (← c.self.view_is) at c.requires.free in
    let low : c.args.x < c.self.inside.nodes = rw (← c.self.view_is) at c.requires.node in
    rw (← c.self.view_is, c.link-2.ensures.next, c.link.ensures.next, c.get-before.ensures.link)
    (ap (lists_for c.self.inside.nodes) (AreRings-before _ _ _ _ _ _ c.self.invariant low free there).0)

pub returns-clause-one : goal.returns-clause-one
returns-clause-one c =
    let there : is_linked c.args.at (lists_of c.self.inside.nodes c.self.inside.heads c.self.inside.next)
    ≡ true = rw (← c.self.view_is) at c.requires.there in
    let free : is_linked c.args.x (lists_of c.self.inside.nodes c.self.inside.heads c.self.inside.next)
    ≡ false = rw (← c.self.view_is) at c.requires.free in
    let low : c.args.x < c.self.inside.nodes = rw (← c.self.view_is) at c.requires.node in
    rw (← c.self.view_is, c.link-2.ensures.next, c.link.ensures.next, c.get-before.ensures.link)
    (λ h at_h. (AreRings-before _ _ _ _ _ _ c.self.invariant low free there).0
    ∙ AreRings-joins _ _ _ _ h _ _ c.self.invariant at_h)
