use Rattle.fmp_view.proofs.TargetLemmas.{stops_target}
use Rattle.fmp_view.proofs.targeting.run_target.Goals as goal

pub returns-in-Ok-false-clause-exported : goal.returns-in-Ok-false-clause-exported
returns-in-Ok-false-clause-exported g c = λ zero.
    record { apart = c.in-Ok-false.ensures c.in-Ok-false.field-0-test; has = c.target_files_of.ensures.exported zero }

pub returns-in-Ok-false-clause-stopped : goal.returns-in-Ok-false-clause-stopped
returns-in-Ok-false-clause-stopped g c = λ failed.
    stops_target _ _ _ _ (c.in-Ok-false.ensures c.in-Ok-false.field-0-test) (c.target_files_of.ensures.stopped failed)
