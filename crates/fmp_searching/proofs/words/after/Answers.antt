use Rattle.fmp_searching.proofs.Grammar.{after_stripped}
use Rattle.fmp_searching.proofs.words.after.Goals as goal

pub returns : goal.returns
returns c = after_stripped _ _ _ c.strip_prefix.ensures.cases
