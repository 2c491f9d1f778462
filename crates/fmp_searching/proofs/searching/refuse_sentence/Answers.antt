use Rattle.fmp_searching.proofs.Doing.{says_one}
use Rattle.fmp_searching.proofs.Printing.{quiet_said}
use Rattle.fmp_searching.proofs.searching.refuse_sentence.Goals as goal

pub returns-clause-quiet : goal.returns-clause-quiet
returns-clause-quiet g c = quiet_said _ _ c.say.ensures.said

pub returns-clause-says : goal.returns-clause-says
returns-clause-says g c = says_one _ _ c.say.ensures.said
