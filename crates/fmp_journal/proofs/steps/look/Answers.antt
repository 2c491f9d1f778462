use Rattle.fmp_journal.proofs.Moves.{looks}
use Rattle.fmp_journal.proofs.steps.look.Goals as goal

pub load-requires : goal.load-requires
load-requires c = (c.requires.table.0, c.requires.table.1, looks _ _ _ _ _ _ c.requires.seat)
