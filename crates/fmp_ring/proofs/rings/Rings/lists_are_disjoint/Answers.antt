use Rattle.fmp_ring.proofs.RingLemmas.{AreChains-apart}
use Rattle.fmp_ring.proofs.rings.Rings.lists_are_disjoint.Goals as goal

pub returns : goal.returns
returns c =
    let rings = c.self.invariant in
    rw (← c.self.view_is) (λ x g h at_g at_h. AreChains-apart _ _ _ _ x g h rings.chains at_g at_h)
