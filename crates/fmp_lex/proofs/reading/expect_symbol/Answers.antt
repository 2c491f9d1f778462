use Rattle.std.proofs.Common.{◌≤◌, length}
use Rattle.std.proofs.lemmas.List.{length-map}
use Rattle.fmp_lex.specs.declared.token.TokenKind.TheVariants.{Symbol}
use Rattle.fmp_lex.specs.Reading.{kinds_of}
use Rattle.fmp_lex.proofs.Sequences.{token_stopped}
use Rattle.fmp_lex.proofs.reading.expect_symbol.Goals as goal

pub returns-else-is_symbol_at : goal.returns-else-is_symbol_at
returns-else-is_symbol_at c =
    let within : c.args.at ≤ length (kinds_of c.args.tokens.now) = simp length-map c.requires in
    token_stopped (Symbol c.args.symbol) (kinds_of c.args.tokens.now) c.args.at
    (c.is_symbol_at.ensures.no c.if-is_symbol_at.false) within
