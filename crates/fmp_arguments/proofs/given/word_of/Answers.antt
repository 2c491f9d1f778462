use Rattle.std.proofs.Common.{◌∙◌, Bor, List, ap, ℕ}
use Rattle.fmp_arguments.proofs.GivenWords.{word_by}
use Rattle.fmp_arguments.proofs.given.word_of.Goals as goal

pub returns : goal.returns
returns c = ap (λ (b : Bor (List ℕ)). b.now) c.unwrap_or.ensures ∙ word_by c.text_of.result _ _ c.text_of.ensures
