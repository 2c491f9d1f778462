use Rattle.std.proofs.Common.{arith}
use Rattle.fmp_visited.specs.Kept.{start_of}
use Rattle.fmp_visited.proofs.kept.State.start.Goals as goal

pub returns : goal.returns
unfolding start_of
returns c = omega arith
