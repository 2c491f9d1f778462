use Rattle.std.proofs.Common.{◌≡◌, ◌≤◌, length, Some, None, ◌∙◌}
use Rattle.std.proofs.lemmas.List.{length-map}
use Rattle.fmp_lex.specs.Reading.{kinds_of}
use Rattle.fmp_lex.proofs.Sequences.{item_missing}
use Rattle.fmp_cfgparse.specs.Grammar.{name_of}
use Rattle.fmp_cfgparse.proofs.Items.{name_fills}
use Rattle.fmp_cfgparse.proofs.syntax.expect_name.Goals as goal

pub returns-in-None : goal.returns-in-None
returns-in-None c =
    let within : c.args.at ≤ length (kinds_of c.args.tokens.now) = simp length-map c.requires in
    item_missing name_of (kinds_of c.args.tokens.now) c.args.at name_fills
    (λ a is. let e : None ≡ Some a = c.in-None.ensures.value ∙ is in absurd (cc)) within
