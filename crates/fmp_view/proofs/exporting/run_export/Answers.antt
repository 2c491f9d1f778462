use Rattle.fmp_view.proofs.Projects.{stops_export}
use Rattle.fmp_view.proofs.exporting.run_export.Goals as goal

pub returns-in-Ok-false-clause-exported : goal.returns-in-Ok-false-clause-exported
returns-in-Ok-false-clause-exported g c = λ zero.
    record { apart = c.in-Ok-false.ensures c.in-Ok-false.field-0-test; has = c.export_files.ensures.exported zero }

pub returns-in-Ok-false-clause-stopped : goal.returns-in-Ok-false-clause-stopped
returns-in-Ok-false-clause-stopped g c = λ failed.
    stops_export _ _ _ _ (c.in-Ok-false.ensures c.in-Ok-false.field-0-test) (c.export_files.ensures.stopped failed)
