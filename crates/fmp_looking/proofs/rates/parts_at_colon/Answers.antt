use Rattle.fmp_looking.proofs.WordLemmas.{parts_split}
use Rattle.fmp_looking.proofs.rates.parts_at_colon.Goals as goal

pub returns : goal.returns
returns c = parts_split _ _ c.split_once.ensures.cases
