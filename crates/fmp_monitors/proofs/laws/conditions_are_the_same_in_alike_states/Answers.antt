use Rattle.fmp_monitors.proofs.AlikeLaws.{holds-same}
use Rattle.fmp_monitors.proofs.laws.conditions_are_the_same_in_alike_states.Goals as goal

pub returns : goal.returns
returns c = λ sys s u condition alike. holds-same sys s u alike condition
