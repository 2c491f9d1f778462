use Rattle.fmp_reachable.proofs.ToldLaws.{contexts-told}
use Rattle.fmp_reachable.proofs.room_laws.contexts_told_are_the_same.Goals as goal

pub returns : goal.returns
returns c = λ bodies k a b within also pc count locals operands. contexts-told bodies k a b within also pc count
    locals operands
