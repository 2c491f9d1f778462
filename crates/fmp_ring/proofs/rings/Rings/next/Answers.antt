use Rattle.std.proofs.Common.{◌≡◌, ◌<◌, arith, true}
use Rattle.fmp_ring.specs.Chains.{lists_of}
use Rattle.fmp_ring.specs.RingLists.{is_linked}
use Rattle.fmp_ring.proofs.LinkLemmas.{AreRings-node, AreRings-follower, AreRings-no_follower}
use Rattle.fmp_ring.proofs.rings.Rings.next.Goals as goal

pub get-y-requires : goal.get-y-requires
get-y-requires c =
    let there : is_linked c.args.x (lists_of c.self.inside.nodes c.self.inside.heads c.self.inside.next)
    ≡ true = rw (← c.self.view_is) at c.requires in
    let low : c.args.x < c.self.inside.nodes = AreRings-node _ _ _ _ _ c.self.invariant there in
    omega arith

pub returns-then-y-self-clause-value : goal.returns-then-y-self-clause-value
returns-then-y-self-clause-value c =
    rw (← c.self.view_is, c.get-y.ensures.link) (λ h there. AreRings-follower _ _ _ _ _ h c.self.invariant there
    (rw c.get-y.ensures.link at c.if-y-self.true))

pub returns-else-y-self-clause-value : goal.returns-else-y-self-clause-value
returns-else-y-self-clause-value c =
    rw (← c.self.view_is) (λ h there. AreRings-no_follower _ _ _ _ _ h c.self.invariant there
    (rw c.get-y.ensures.link at c.if-y-self.false))
