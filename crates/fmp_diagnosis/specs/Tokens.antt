-- What stands at a place of the tokens of a text.
use Rattle.std.specs.Prelude.{ℕ, zero, suc, ◌+◌, Bool, true, false, if◌then◌else◌, List, slice_get, Option, Some, None}
use Rattle.std.specs.Option.{option_and_then}
use Rattle.std.specs.Str.{bytes_eq}
use Rattle.fmp_base.specs.declared.names.Name.{Name}
use Rattle.fmp_base.specs.declared.words.Api.{Api}
use Rattle.fmp_base.specs.declared.words.Keyword.TheVariants as keyword
use Rattle.fmp_base.specs.Names.{name_text}
use Rattle.fmp_lex.specs.declared.token.Token.{Token}
use Rattle.fmp_lex.specs.declared.token.TokenKind.{TokenKind}
use Rattle.fmp_lex.specs.declared.token.TokenKind.TheVariants as kind
use Rattle.fmp_lex.specs.Reading.{kinds_of}

-- what the token at a place is
abbrev pub kind_at : List Token → ℕ → Option TokenKind
kind_at ts at = slice_get (kinds_of ts) at

-- the static API whose word it is
abbrev pub api_of : TokenKind → Option Api
api_of (kind.Api a) = Some a
api_of _ = None

abbrev pub api_at : List Token → ℕ → Option Api
api_at ts at = option_and_then api_of (kind_at ts at)

-- the name that it is
abbrev pub name_of : TokenKind → Option Name
name_of (kind.Name n) = Some n
name_of _ = None

abbrev pub name_at : List Token → ℕ → Option Name
name_at ts at = option_and_then name_of (kind_at ts at)

-- the name that the static API at a place gives to its object
abbrev pub object_name : List Token → ℕ → Option Name
object_name ts at = option_and_then (λ a. name_at ts (at + 2)) (api_at ts at)

-- the word with which a body begins
abbrev pub begins_body : TokenKind → Bool
begins_body (kind.Keyword keyword.Task) = true
begins_body (kind.Keyword keyword.Handler) = true
begins_body _ = false

abbrev pub is_body_begun : Option TokenKind → Bool
is_body_begun (Some k) = begins_body k
is_body_begun None = false

abbrev pub begins_body_at : List Token → ℕ → Bool
begins_body_at ts at = is_body_begun (kind_at ts at)

-- where the last body of the first n tokens begins; at the first token if none does
abbrev pub last_body : List Token → (n : ℕ) → ℕ
last_body ts zero = 0
last_body ts (suc n) = if begins_body_at ts n then n else last_body ts n

-- two names have the same letters
abbrev pub is_same : Name → Name → Bool
is_same a b = bytes_eq (name_text a) (name_text b)
