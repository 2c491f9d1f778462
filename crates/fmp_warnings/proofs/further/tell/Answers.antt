use Rattle.fmp_warnings.proofs.FurtherFaults.{adds_told}
use Rattle.fmp_warnings.proofs.further.tell.Goals as goal

pub returns-clause-added : goal.returns-clause-added
returns-clause-added c = λ yes.
    adds_told _ _ _ _ c.in_ok-told_of.field-0 c.in_ok-told_of.ensures c.in_ok-push.ensures.items
