use Rattle.fmp_tasklang.proofs.Single.{one_program}
use Rattle.fmp_tasklang.proofs.laws.tokens_spell_one_program.Goals as goal

pub returns : goal.returns
returns c = one_program
