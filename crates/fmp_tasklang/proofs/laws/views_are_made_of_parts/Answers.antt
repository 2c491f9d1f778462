use Rattle.fmp_tasklang.proofs.Views.{views_of_parts}
use Rattle.fmp_tasklang.proofs.laws.views_are_made_of_parts.Goals as goal

pub returns : goal.returns
returns c = views_of_parts
