use Rattle.fmp_view.proofs.importing.import_source.Goals as goal

pub returns : goal.returns
returns g c = λ zero.
    record { apart = c.is_over_included.ensures c.if-is_over_included.false; has = c.import_text.ensures zero }
