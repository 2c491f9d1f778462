use Rattle.fmp_tasklang.proofs.Overs.{hands_over_nothing}
use Rattle.fmp_tasklang.proofs.laws.stretches_hand_over_nothing.Goals as goal

pub returns : goal.returns
returns c = hands_over_nothing
