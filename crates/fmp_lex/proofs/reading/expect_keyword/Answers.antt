use Rattle.std.proofs.Common.{◌≤◌, length}
use Rattle.std.proofs.lemmas.List.{length-map}
use Rattle.fmp_lex.specs.declared.token.TokenKind.TheVariants.{Keyword}
use Rattle.fmp_lex.specs.Reading.{kinds_of}
use Rattle.fmp_lex.proofs.Sequences.{token_stopped}
use Rattle.fmp_lex.proofs.reading.expect_keyword.Goals as goal

pub returns-else-is_keyword_at : goal.returns-else-is_keyword_at
returns-else-is_keyword_at c =
    let within : c.args.at ≤ length (kinds_of c.args.tokens.now) = simp length-map c.requires in
    token_stopped (Keyword c.args.keyword) (kinds_of c.args.tokens.now) c.args.at
    (c.is_keyword_at.ensures.no c.if-is_keyword_at.false) within
