use Rattle.fmp_visited.proofs.LinkLemmas.{path-added, path-first}
use Rattle.fmp_visited.proofs.laws.path_of_added.Goals as goal

pub returns-clause-first : goal.returns-clause-first
returns-clause-first c = path-first

pub returns-clause-next : goal.returns-clause-next
returns-clause-next c = path-added
