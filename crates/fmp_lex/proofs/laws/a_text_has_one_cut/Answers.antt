use Rattle.fmp_lex.proofs.Existence.{one_cut}
use Rattle.fmp_lex.proofs.laws.a_text_has_one_cut.Goals as goal

pub returns : goal.returns
returns c = one_cut
