use Rattle.fmp_image.proofs.OneAnswer.{one_answer_of_both}
use Rattle.fmp_image.proofs.laws.two_texts_have_one_answer.Goals as goal

pub returns : goal.returns
returns c = one_answer_of_both
