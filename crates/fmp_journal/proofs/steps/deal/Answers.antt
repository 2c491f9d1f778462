use Rattle.fmp_journal.proofs.Moves.{deals}
use Rattle.fmp_journal.proofs.steps.deal.Goals as goal

pub split_seat-requires : goal.split_seat-requires
split_seat-requires c = (
  c.requires.table.0,
  c.requires.table.1,
  deals _ _ _ _ c.requires.scribe.0 c.requires.scribe.1
      c.requires.scribe.2,
)
