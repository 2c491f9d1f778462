use Rattle.fmp_kernel.proofs.StampLemmas.{counted_from_setup}
use Rattle.fmp_kernel.proofs.laws.stamps_count_events.Goals as goal

pub returns : goal.returns
returns g c = λ meaning body n sys es p h. counted_from_setup meaning body n sys es p h
