use Rattle.fmp_journal.proofs.Moves.{begins}
use Rattle.fmp_journal.proofs.steps.lay.Goals as goal

pub of_words-requires : goal.of_words-requires
of_words-requires c = begins _ _ _ c.requires
