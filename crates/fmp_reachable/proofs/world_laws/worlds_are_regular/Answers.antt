use Rattle.fmp_reachable.proofs.WorldLaws.{reached-regular, reached-sized, reached-within, runs-reached}
use Rattle.fmp_reachable.proofs.world_laws.worlds_are_regular.Goals as goal

pub returns-clause-regular : goal.returns-clause-regular
returns-clause-regular g c sys M n es range = reached-regular sys _ (runs-reached sys M range n es)

pub returns-clause-sizes : goal.returns-clause-sizes
returns-clause-sizes g c sys M n es range = reached-sized sys _ (runs-reached sys M range n es)

pub returns-clause-words : goal.returns-clause-words
returns-clause-words g c sys M n es range = reached-within sys _ (runs-reached sys M range n es)
