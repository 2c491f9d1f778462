use Rattle.fmp_cfgparse.proofs.Single.{config_single}
use Rattle.fmp_cfgparse.proofs.laws.tokens_spell_one_tree.Goals as goal

pub returns : goal.returns
returns c = config_single
