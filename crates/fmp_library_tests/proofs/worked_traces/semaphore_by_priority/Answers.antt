use Rattle.std.proofs.Common.{refl}
use Rattle.std.specs.Fmt.{digits}
use Rattle.fmp_library_tests.proofs.worked_traces.semaphore_by_priority.Goals as goal

pub returns : goal.returns
unfolding digits
returns c = refl
