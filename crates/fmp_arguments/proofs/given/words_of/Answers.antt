use Rattle.std.proofs.Common.{◌∙◌, Bor, List, ap, map, ℕ}
use Rattle.clap.specs.Words.{found_of}
use Rattle.clap.proofs.WalkLemmas.{raw_values-rows}
use Rattle.fmp_arguments.proofs.GivenWords.{words_by}
use Rattle.fmp_arguments.proofs.given.words_of.Goals as goal

pub returns : goal.returns
returns c =
    ap (λ (b : Bor (List (Bor (List ℕ)))). map (λ v. v.now) b.now) c.unwrap_or.ensures
    ∙ words_by c.get_strs.result _ _ (c.get_strs.ensures ∙ raw_values-rows (found_of c.args.words.now) c.args.id.now)
