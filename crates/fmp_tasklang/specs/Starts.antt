-- How operands begin.
use Rattle.std.specs.Prelude.{◌≡◌, Option, Some, None, option_and_then}
use Rattle.fmp_lex.specs.declared.token.Symbol.TheVariants as symbol
use Rattle.fmp_lex.specs.declared.token.TokenKind.{TokenKind}
use Rattle.fmp_lex.specs.declared.token.TokenKind.TheVariants as kind
use Rattle.fmp_tasklang.specs.declared.words.OperandStart.{OperandStart}
use Rattle.fmp_tasklang.specs.declared.words.OperandStart.TheVariants as start
use Rattle.fmp_tasklang.specs.Expressions.{token_number, name_of, unary_of}

-- what the first token of an operand says of it; the operand begins with none of the four where none stands there
abbrev pub Starts : Option TokenKind → Option OperandStart → Type 0
Starts t (Some (start.Number n)) = option_and_then token_number t ≡ Some n
Starts t (Some (start.Name n)) = option_and_then name_of t ≡ Some n
Starts t (Some (start.Unary op)) = option_and_then unary_of t ≡ Some op
Starts t (Some start.Group) = t ≡ Some (kind.Symbol symbol.LeftParen)
Starts t None =
    (option_and_then token_number t ≡ None)
    × (option_and_then name_of t ≡ None)
    × (option_and_then unary_of t ≡ None) × (t ≡ Some (kind.Symbol symbol.LeftParen) → ⊥)
