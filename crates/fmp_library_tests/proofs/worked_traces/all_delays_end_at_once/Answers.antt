use Rattle.fmp_library_tests.proofs.ManyDelayTraces.{all_delays_end}
use Rattle.fmp_library_tests.proofs.worked_traces.all_delays_end_at_once.Goals as goal

pub returns : goal.returns
returns c = all_delays_end
