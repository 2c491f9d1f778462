use Rattle.std.proofs.Common.{◌∙◌}
use Rattle.fmp_searching.proofs.Grammar.{value_parsed}
use Rattle.fmp_searching.proofs.words.value_named.Goals as goal

pub returns : goal.returns
returns c = c.ok.ensures.value ∙ value_parsed c.args.text.now _ c.parse.ensures.value.0
