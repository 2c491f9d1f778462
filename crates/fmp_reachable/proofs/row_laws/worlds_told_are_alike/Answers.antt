use Rattle.fmp_reachable.proofs.AlikeWorlds.{worlds-told}
use Rattle.fmp_reachable.proofs.row_laws.worlds_told_are_alike.Goals as goal

pub returns : goal.returns
returns g c = λ sys v w a b row bodies. worlds-told sys v w a b row bodies
