use Rattle.std.proofs.Common.{ap}
use Rattle.fmp_ring.proofs.LinkLemmas.{AreRings-new, lists_for}
use Rattle.fmp_ring.proofs.rings.Rings.new.Goals as goal

pub invariant_of-result : goal.invariant_of-result
invariant_of-result c = rw (c.in_ok-next.ensures, c.in_ok-previous.ensures) (AreRings-new _ _).1

pub returns : goal.returns
returns c = rw c.in_ok-next.ensures (ap (lists_for c.args.nodes) (AreRings-new _ _).0)
