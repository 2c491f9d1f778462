use Rattle.std.proofs.Common.{refl}
use Rattle.fmp_warnings.proofs.FurtherFaults.{told_is}
use Rattle.fmp_warnings.proofs.further.told_of.Goals as goal

pub returns : goal.returns
returns c =
    told_is c.args.left.now (record { cfg = c.deref.result; src = c.deref-2.result }) c.in_ok-finding.finding _
    c.deref.ensures.value c.deref-2.ensures.value refl c.in_ok-finding.ensures c.in_ok-finding-2.ensures
