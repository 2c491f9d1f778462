use Rattle.std.proofs.Common.{arith, refl}
use Rattle.fmp_visited.specs.Kept.{start_of}
use Rattle.fmp_visited.proofs.kept.State.new.Goals as goal

pub returns-clause-made : goal.returns-clause-made
unfolding start_of
returns-clause-made c = (omega (arith, c.in-Ok.ensures), refl, refl)
