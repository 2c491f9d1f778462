use Rattle.fmp_looking.proofs.commands.table_on.Goals as goal

pub tallied-requires : goal.tallied-requires
tallied-requires g c = record { few = c.requires.few }
