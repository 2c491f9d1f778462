-- Where tokens stand in a text.
use Rattle.std.specs.Prelude.{ℕ, List, length, Option, Some, None}
use Rattle.fmp_lex.specs.declared.position.TokenPosition.{TokenPosition}
use Rattle.fmp_lex.specs.declared.token.Token.{Token}
use Rattle.fmp_lex.specs.Cutting.{end_line_of}

-- where a text begins
abbrev pub text_start : TokenPosition
text_start = record { line = 1; start = 0; end = 0 }

-- where a text ends
abbrev pub text_end : List ℕ → TokenPosition
text_end text = record { line = end_line_of text; start = length text; end = length text }

-- where a token stands
abbrev pub position_of : Token → TokenPosition
position_of t = record { line = t.line; start = t.start; end = t.end }

-- the same, or where the text begins
abbrev pub position_or_start : Option Token → TokenPosition
position_or_start (Some t) = position_of t
position_or_start None = text_start
