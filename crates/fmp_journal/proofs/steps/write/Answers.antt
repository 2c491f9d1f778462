use Rattle.fmp_journal.proofs.Moves.{writes}
use Rattle.fmp_journal.proofs.steps.write.Goals as goal

pub store-requires : goal.store-requires
store-requires c = (
  c.requires.table.0,
  c.requires.table.1,
  rw c.word.ensures.word
      (writes _ _ _ _ _ c.args.entry _ c.requires.scribe.0 c.requires.scribe.1 c.requires.table.2
      (c.requires.seat, c.word.ensures.bytes)),
)
