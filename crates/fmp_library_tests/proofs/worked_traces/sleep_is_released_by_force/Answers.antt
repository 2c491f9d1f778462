use Rattle.std.proofs.Common.{refl}
use Rattle.std.specs.Fmt.{digits}
use Rattle.fmp_library_tests.proofs.worked_traces.sleep_is_released_by_force.Goals as goal

pub returns : goal.returns
unfolding digits
returns c = refl
