use Rattle.fmp_tasklang.proofs.Weights.{follows_each_item}
use Rattle.fmp_tasklang.proofs.laws.each_item_is_followed.Goals as goal

pub returns : goal.returns
returns c = follows_each_item
