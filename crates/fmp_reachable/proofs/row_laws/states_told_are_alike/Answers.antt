use Rattle.fmp_reachable.proofs.HoldingLaws.{alike-told}
use Rattle.fmp_reachable.proofs.row_laws.states_told_are_alike.Goals as goal

pub returns : goal.returns
returns c sys s u a b tasks behind times rest = alike-told sys s u a b tasks behind times rest
