use Rattle.fmp_lex.proofs.Names.{reads_words}
use Rattle.fmp_lex.proofs.laws.words_have_one_name.Goals as goal

pub returns : goal.returns
returns c = reads_words
