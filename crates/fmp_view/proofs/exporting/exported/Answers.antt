use Rattle.fmp_view.proofs.Projects.{exports_of}
use Rattle.fmp_view.proofs.exporting.exported.Goals as goal

pub returns-in-Ok : goal.returns-in-Ok
returns-in-Ok c =
    exports_of _ _ _ _ c.in-Ok.ensures.builds _
    (rw c.system.ensures.tables at c.export_c_with_lines-exported.ensures)
