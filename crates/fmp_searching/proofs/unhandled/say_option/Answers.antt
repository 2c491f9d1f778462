use Rattle.fmp_searching.proofs.Doing.{says_one}
use Rattle.fmp_searching.proofs.unhandled.say_option.Goals as goal

pub returns : goal.returns
returns g c = says_one _ _ c.say.ensures.said
