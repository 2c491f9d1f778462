use Rattle.fmp_reachable.proofs.WorldLaws.{same-sizes}
use Rattle.fmp_reachable.proofs.world_laws.states_of_a_system_have_the_same_sizes.Goals as goal

pub returns : goal.returns
returns c sys s u a b = same-sizes sys s u a b
