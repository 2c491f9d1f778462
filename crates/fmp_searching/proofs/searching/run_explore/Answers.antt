use Rattle.fmp_searching.proofs.Doing.{idly_refused}
use Rattle.fmp_searching.proofs.searching.run_explore.Goals as goal

pub returns-in-Some-clause-shown : goal.returns-in-Some-clause-shown
returns-in-Some-clause-shown g c = idly_refused _ _ c.refuse_mistake.ensures.said

pub returns-in-Ok-Err-clause-shown : goal.returns-in-Ok-Err-clause-shown
returns-in-Ok-Err-clause-shown g c = idly_refused _ _ c.refuse_mistake-in-Ok-Err.ensures.said

pub returns-in-Err-clause-shown : goal.returns-in-Err-clause-shown
returns-in-Err-clause-shown g c = idly_refused _ _ c.end.ensures.said
