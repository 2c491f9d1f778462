use Rattle.fmp_looking.proofs.timeline.run_on.Goals as goal

pub recorded-requires : goal.recorded-requires
recorded-requires g c = record { few = c.requires.few }
