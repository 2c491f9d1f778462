use Rattle.fmp_ring.proofs.LinkLemmas.{AreRings-is_linked, AreRings-outside}
use Rattle.fmp_ring.proofs.rings.Rings.is_linked.Goals as goal

pub returns-then-self-x-clause-value : goal.returns-then-self-x-clause-value
returns-then-self-x-clause-value c =
    rw (← c.self.view_is) (AreRings-outside _ _ _ _ _ c.self.invariant c.if-self-x.true)

pub returns-clause-value : goal.returns-clause-value
returns-clause-value c =
    rw (c.get.ensures.link, ← c.self.view_is) (AreRings-is_linked _ _ _ _ _ c.self.invariant c.if-self-x.false)
