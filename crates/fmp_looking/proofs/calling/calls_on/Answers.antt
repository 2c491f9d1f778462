use Rattle.fmp_looking.proofs.calling.calls_on.Goals as goal

pub called-requires : goal.called-requires
called-requires g c = record { few = c.requires.few }
