use Rattle.fmp_cfgparse.proofs.OneAnswer.{one_answer}
use Rattle.fmp_cfgparse.proofs.laws.a_text_has_one_answer.Goals as goal

pub returns : goal.returns
returns c = one_answer
