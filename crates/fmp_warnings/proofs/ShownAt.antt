-- Where a token is shown.
use Rattle.std.proofs.Common.{◌≡◌, ◌∙◌, ◌+◌, ℕ, List, Option, Some, None, ap, refl, sym}
use Rattle.std.specs.Prelude.{false, option_map, slice_get}
use Rattle.std.proofs.lemmas.Option.{slice_get-map}
use Rattle.fmp_lex.specs.declared.position.TokenPosition.{TokenPosition}
use Rattle.fmp_lex.specs.declared.token.Symbol.TheVariants as symbol
use Rattle.fmp_lex.specs.declared.token.Token.{Token}
use Rattle.fmp_lex.specs.declared.token.TokenKind.{TokenKind}
use Rattle.fmp_lex.specs.declared.token.TokenKind.TheVariants as kind
use Rattle.fmp_lex.specs.Positions.{position_of}
use Rattle.fmp_lex.specs.Reading.{kind_of}
use Rattle.fmp_diagnosis.specs.Tokens.{kind_at}
use Rattle.fmp_warnings.specs.Warned.{is_minus, shown_at, shown_of}

not_minus : (k : TokenKind) → (k ≡ kind.Symbol symbol.Minus → ⊥) → is_minus k ≡ false
not_minus (kind.Symbol symbol.Minus) h = absurd (h refl)
not_minus k h = refl

-- a token that is no minus is shown alone
shown_alone : (t : Token) (next : Option Token) → is_minus t.kind ≡ false → shown_of (Some t) next ≡ position_of t
shown_alone t None plain = refl
shown_alone t (Some next) plain = rw plain refl

of_plain : (found next : Option Token) (p : TokenPosition) → option_map position_of found ≡ Some p
    → (option_map kind_of found ≡ Some (kind.Symbol symbol.Minus) → ⊥) → p ≡ shown_of found next
of_plain None next p here plain = cc
of_plain (Some t) next p here plain =
    let same : position_of t ≡ p = cc in
    sym same ∙ sym (shown_alone t next (not_minus t.kind (λ e. plain (ap (λ (k : TokenKind). Some k) e))))

pub shown_plain : (ts : List Token) (at : ℕ) (p : TokenPosition) → option_map position_of (slice_get ts at) ≡ Some p
    → (kind_at ts at ≡ Some (kind.Symbol symbol.Minus) → ⊥) → p ≡ shown_at ts at
shown_plain ts at p here plain =
    of_plain (slice_get ts at) (slice_get ts (at + 1)) p here (λ e. plain (slice_get-map kind_of ts at ∙ e))
