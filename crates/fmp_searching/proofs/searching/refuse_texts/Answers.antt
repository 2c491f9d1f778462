use Rattle.std.proofs.Common.{refl}
use Rattle.fmp_searching.proofs.Doing.{idly_refused}
use Rattle.fmp_searching.proofs.ShownLemmas.{fault_shown}
use Rattle.fmp_searching.proofs.searching.refuse_texts.Goals as goal

pub returns-in-Memory-clause-shown : goal.returns-in-Memory-clause-shown
returns-in-Memory-clause-shown g c = idly_refused _ _ c.end.ensures.said

pub returns-in-At-clause-shown : goal.returns-in-At-clause-shown
returns-in-At-clause-shown g c =
    fault_shown _ _ _ _ _ c.print_fault.ensures.tells c.print_fault.ensures.shown refl refl
