use Rattle.fmp_view.proofs.importing.import_read.Goals as goal

pub returns-in-Ok : goal.returns-in-Ok
returns-in-Ok g c = λ zero. (_, c.import_source.ensures zero)
