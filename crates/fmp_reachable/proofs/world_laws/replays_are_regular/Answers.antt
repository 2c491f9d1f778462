use Rattle.fmp_reachable.proofs.ReplayLaws.{replays-reached}
use Rattle.fmp_reachable.proofs.WorldLaws.{reached-regular, reached-sized, reached-within}
use Rattle.fmp_reachable.proofs.world_laws.replays_are_regular.Goals as goal

pub returns-clause-regular : goal.returns-clause-regular
returns-clause-regular c i n es range = reached-regular i.system _ (replays-reached i n es range)

pub returns-clause-sizes : goal.returns-clause-sizes
returns-clause-sizes c i n es range = reached-sized i.system _ (replays-reached i n es range)

pub returns-clause-words : goal.returns-clause-words
returns-clause-words c i n es range = reached-within i.system _ (replays-reached i n es range)
