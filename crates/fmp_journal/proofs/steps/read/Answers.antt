use Rattle.fmp_journal.proofs.Moves.{reads}
use Rattle.fmp_journal.proofs.steps.read.Goals as goal

pub load-requires : goal.load-requires
load-requires c = (c.requires.table.0, c.requires.table.1, reads _ _ _ _ _ _ c.requires.scribe)
