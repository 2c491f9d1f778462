use Rattle.fmp_why.specs.Reports.{sight_of}
use Rattle.fmp_why.proofs.ReportLemmas.{no-holders, nothing-left}
use Rattle.fmp_why.proofs.report.append_holders.Goals as goal

pub returns-in_default : goal.returns-in_default
returns-in_default c =
    nothing-left _ _ _ (no-holders (sight_of c.args.scene.now) _ _ _ c.in_default.len_below) c.loop-place.invariant
