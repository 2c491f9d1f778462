use Rattle.fmp_visited.proofs.LinkLemmas.{path-depth}
use Rattle.fmp_visited.proofs.laws.path_has_depth.Goals as goal

pub returns : goal.returns
returns c = path-depth
