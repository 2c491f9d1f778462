-- Where a fault is shown: at its position, or at the tokens beside it that are to be changed.
use Rattle.std.specs.Prelude.{◌≡◌, ℕ, ◌+◌, ◌-◌, ◌==◌, ◌&&◌, ◌||◌, if◌then◌else◌, nat_le, Bool, true, false, not, List}
use Rattle.std.specs.Prelude.{length, max, min, option_map, position, slice_get, slice_range, Option, Some, None}
use Rattle.std.specs.Char.{is_ascii_alphanumeric}
use Rattle.std.specs.Option.{unwrap_or}
use Rattle.fmp_base.specs.declared.codes.Er.{Er}
use Rattle.fmp_lex.specs.declared.fault.FaultKind.{FaultKind}
use Rattle.fmp_lex.specs.declared.fault.FaultKind.TheVariants as fault
use Rattle.fmp_lex.specs.declared.position.TokenPosition.{TokenPosition}
use Rattle.fmp_lex.specs.declared.token.Token.{Token}
use Rattle.fmp_lex.specs.Cutting.{Cuts}
use Rattle.fmp_lex.specs.Positions.{position_of}
use Rattle.fmp_diagnosis.specs.declared.culprit.Aim.{Aim}
use Rattle.fmp_diagnosis.specs.declared.culprit.Aim.TheVariants as aim

-- these are the tokens of a text, of which no more is looked at than a text may have
abbrev pub HasTokens : List ℕ → List Token → Type 0
HasTokens text ts = Cuts (slice_range text 0 (min (length text) 1048576)) 0 ts

-- where a token stands, if there is one at this place of the list
abbrev pub position_at : List Token → ℕ → Option TokenPosition
position_at ts i = option_map position_of (slice_get ts i)

-- from the first byte of one token to the last of another in its line
abbrev pub joined : Option TokenPosition → Option TokenPosition → Option TokenPosition
joined (Some from) (Some to) =
    Some (record { line = from.line; start = from.start; end = if to.line == from.line then to.end else from.end })
joined (Some from) None = None
joined None to = None

-- after the last byte of a token
abbrev pub after : TokenPosition → TokenPosition
after p = record { line = p.line; start = p.end; end = p.end }

-- neither a letter, a digit nor `_`
abbrev pub ends_word : ℕ → Bool
ends_word b = not (is_ascii_alphanumeric b || (b == 95))

-- how many bytes of a word or a number stand at the head of these
abbrev pub word_length : List ℕ → ℕ
word_length bytes = unwrap_or (position (λ b. ends_word b) bytes) (length bytes)

-- from a position on, up to the end of the word or the number that begins there
abbrev pub whole : List ℕ → TokenPosition → TokenPosition
whole text p =
    let rest = slice_range text (min p.start (length text)) (length text) in
    record { line = p.line; start = p.start; end = max p.end (min (p.start + word_length rest) 4294967295) }

-- where a fault that stands at token i of a text is shown, if not there
abbrev pub aimed : (text : List ℕ) → TokenPosition → List Token → (i : ℕ) → Aim → Option TokenPosition
aimed text p ts i aim.Here = None
aimed text p ts i aim.Whole = Some (whole text p)
aimed text p ts i aim.Before = position_at ts (i - 1)
aimed text p ts i aim.After = option_map after (position_at ts (i - 1))
aimed text p ts i (aim.Tokens first last) = joined (position_at ts first) (position_at ts last)

-- a fault that may stand at the word of a static API
abbrev pub is_in_api : FaultKind → Bool
is_in_api fault.TwiceNamed = true
is_in_api fault.UnknownName = true
is_in_api (fault.Api code) = true
is_in_api fault.StackTooSmall = true
is_in_api fault.WrongEntryKind = true
is_in_api _ = false

abbrev pub is_syntax : FaultKind → Bool
is_syntax fault.Syntax = true
is_syntax _ = false

-- a fault that a word or a number may have which is no token
abbrev pub is_of_word : FaultKind → Bool
is_of_word fault.Syntax = true
is_of_word fault.Limit = true
is_of_word _ = false

-- A fault of syntax is shown at its position, or at the token before it, or after that; one at the word of a static API
-- at its position or at later tokens; any other at its position. A word or a number that is no token is shown whole.
abbrev pub fits : FaultKind → (i : ℕ) → Aim → Bool
fits kind i aim.Here = true
fits kind i aim.Whole = is_of_word kind
fits kind i aim.Before = is_syntax kind
fits kind i aim.After = is_syntax kind
fits kind i (aim.Tokens first last) = is_in_api kind && nat_le i first

-- where a fault of this kind at a position of a text is shown
pub record IsCulprit (text : List ℕ) (position : TokenPosition) (kind : FaultKind) (c : TokenPosition) : Type 0 where
  pub before : List Token
  pub tokens : List Token
  pub aim : Aim
  pub has_before : HasTokens (slice_range text 0 (min position.start (length text))) before
  pub has_tokens : HasTokens text tokens
  pub fits : fits kind (length before) aim ≡ true
  pub is : c ≡ unwrap_or (aimed text position tokens (length before) aim) position
