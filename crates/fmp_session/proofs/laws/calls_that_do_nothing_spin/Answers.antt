use Rattle.fmp_session.proofs.SpinLaws.{only_spins}
use Rattle.fmp_session.proofs.laws.calls_that_do_nothing_spin.Goals as goal

pub returns : goal.returns
returns c = only_spins
