use Rattle.fmp_visited.proofs.LinkLemmas.{links-added}
use Rattle.fmp_visited.proofs.laws.links_are_linked.Goals as goal

pub returns-clause-added : goal.returns-clause-added
returns-clause-added c = links-added
