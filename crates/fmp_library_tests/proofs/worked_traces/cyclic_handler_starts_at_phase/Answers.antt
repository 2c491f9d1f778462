use Rattle.std.proofs.Common.{refl}
use Rattle.std.specs.Fmt.{digits}
use Rattle.fmp_library_tests.proofs.worked_traces.cyclic_handler_starts_at_phase.Goals as goal

pub returns : goal.returns
unfolding digits
returns c = refl
