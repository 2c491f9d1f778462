use Rattle.std.proofs.Common.{ap}
use Rattle.fmp_why.specs.declared.history.ObjectTrail.{ObjectTrail}
use Rattle.fmp_why.proofs.report.taken_of.Goals as goal

pub returns : goal.returns
returns c = ap (λ (x : ObjectTrail). x.taken) c.trail.ensures.row
