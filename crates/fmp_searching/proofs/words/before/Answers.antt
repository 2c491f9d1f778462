use Rattle.fmp_searching.proofs.Grammar.{before_stripped}
use Rattle.fmp_searching.proofs.words.before.Goals as goal

pub returns : goal.returns
returns c = before_stripped _ _ _ c.strip_suffix.ensures.cases
