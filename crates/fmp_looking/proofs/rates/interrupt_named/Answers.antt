use Rattle.std.proofs.Common.{◌∙◌}
use Rattle.fmp_looking.proofs.WordLemmas.{number_parsed}
use Rattle.fmp_looking.proofs.rates.interrupt_named.Goals as goal

pub returns : goal.returns
returns c = c.ok.ensures.value ∙ number_parsed 8 c.args.text.now _ c.parse.ensures.value.0
