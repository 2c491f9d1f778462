use Rattle.fmp_reachable.proofs.SameBodies.{bodies-same}
use Rattle.fmp_reachable.proofs.room_laws.bodies_told_are_the_same.Goals as goal

pub returns : goal.returns
returns c = λ sys bodies v w a b told. bodies-same sys bodies v w a b told
