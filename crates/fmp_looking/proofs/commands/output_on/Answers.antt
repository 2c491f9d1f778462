use Rattle.fmp_looking.proofs.commands.output_on.Goals as goal

pub table_on-requires : goal.table_on-requires
table_on-requires g c = record { few = c.requires.few }

pub dump_on-requires : goal.dump_on-requires
dump_on-requires g c = record { few = c.requires.few }

pub calls_on-requires : goal.calls_on-requires
calls_on-requires g c = record { few = c.requires.few }
