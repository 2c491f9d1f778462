use Rattle.std.proofs.Common.{refl, arith}
use Rattle.std.proofs.lemmas.Iterator.{items_from_collect, YieldsList-from_range}
use Rattle.fmp_base.proofs.counted.CountedLinks.new.Goals as goal

pub returns : goal.returns
returns c =
    rw c.in_ok-links.was at (items_from_collect c.collect.result c.collect.ensures.ran
    (YieldsList-from_range 0 c.args.length c.args.length refl (omega arith)))
