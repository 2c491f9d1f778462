use Rattle.fmp_reachable.proofs.ReadableLaws.{readable}
use Rattle.fmp_reachable.proofs.world_laws.replays_are_readable.Goals as goal

pub returns : goal.returns
returns c = λ i n es lawful. readable i n es lawful
