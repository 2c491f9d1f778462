-- The tokens of a task text at which the warnings look.
use Rattle.std.specs.Prelude.{ℕ, Bool, true, false, suc, if◌then◌else◌, List, Option, Some, None, filter_map, length}
use Rattle.std.specs.List.{range_with_len}
use Rattle.fmp_lex.specs.declared.token.Symbol.TheVariants as symbol
use Rattle.fmp_lex.specs.declared.token.Token.{Token}
use Rattle.fmp_lex.specs.declared.token.TokenKind.{TokenKind}
use Rattle.fmp_lex.specs.declared.token.TokenKind.TheVariants as kind
use Rattle.fmp_diagnosis.specs.Tokens.{kind_at, last_body}
use Rattle.fmp_warnings.specs.declared.landmarks.Mark.{Mark}

-- a token, and where the body begins in which it stands
abbrev pub mark : List Token → ℕ → Mark
mark ts at = record { at = at; body = last_body ts (suc at) }

-- keywords, service calls and braces
abbrev pub is_structure : TokenKind → Bool
is_structure (kind.Keyword k) = true
is_structure (kind.Service s) = true
is_structure (kind.Symbol symbol.LeftBrace) = true
is_structure (kind.Symbol symbol.RightBrace) = true
is_structure _ = false

abbrev pub structure_in : List Token → ℕ → Option TokenKind → Option Mark
structure_in ts at (Some k) = if is_structure k then Some (mark ts at) else None
structure_in ts at None = None

abbrev pub structure_at : List Token → ℕ → Option Mark
structure_at ts at = structure_in ts at (kind_at ts at)

-- those of the first n tokens, in order
abbrev pub structure_of : List Token → (n : ℕ) → List Mark
structure_of ts n = filter_map (structure_at ts) (range_with_len 0 n)

abbrev pub structure : List Token → List Mark
structure ts = structure_of ts (length ts)
