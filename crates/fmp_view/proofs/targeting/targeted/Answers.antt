use Rattle.fmp_view.proofs.TargetLemmas.{targets_of}
use Rattle.fmp_view.proofs.targeting.targeted.Goals as goal

pub returns-in-Ok : goal.returns-in-Ok
returns-in-Ok c =
    targets_of _ _ _ _ c.in-Ok.ensures.builds _ (rw c.system.ensures.tables at c.export_toppers-exported.ensures)
