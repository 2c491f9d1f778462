use Rattle.fmp_visited.proofs.LinkLemmas.{path-stays}
use Rattle.fmp_visited.proofs.laws.path_stays.Goals as goal

pub returns : goal.returns
returns c = path-stays
