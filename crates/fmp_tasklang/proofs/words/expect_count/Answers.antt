use Rattle.std.proofs.Common.{◌≤◌, length}
use Rattle.std.proofs.lemmas.List.{length-map}
use Rattle.fmp_lex.specs.Reading.{kinds_of}
use Rattle.fmp_tasklang.proofs.BodyPaths.{count_missing}
use Rattle.fmp_tasklang.proofs.words.expect_count.Goals as goal

pub returns-in-None : goal.returns-in-None
returns-in-None c =
    let within : c.args.at ≤ length (kinds_of c.args.tokens.now) = simp length-map c.requires in
    count_missing (kinds_of c.args.tokens.now) c.args.at c.in-None.ensures.value within
