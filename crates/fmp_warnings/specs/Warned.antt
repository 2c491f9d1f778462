-- The warnings of the tokens of a text: which token is shown, and of which tokens a rule holds.
use Rattle.std.specs.Prelude.{◌≡◌, ℕ, ◌+◌, ◌==◌, ◌&&◌, Bool, true, false, if◌then◌else◌, List, [], ◌∷◌, ◌++◌}
use Rattle.std.specs.Prelude.{slice_get, Option, Some, None}
use Rattle.fmp_lex.specs.declared.fault.TextFile.{TextFile}
use Rattle.fmp_lex.specs.declared.position.TokenPosition.{TokenPosition}
use Rattle.fmp_lex.specs.declared.token.Symbol.TheVariants as symbol
use Rattle.fmp_lex.specs.declared.token.Token.{Token}
use Rattle.fmp_lex.specs.declared.token.TokenKind.{TokenKind}
use Rattle.fmp_lex.specs.declared.token.TokenKind.TheVariants as kind
use Rattle.fmp_lex.specs.Positions.{position_of, text_start}
use Rattle.fmp_diagnosis.specs.Reports.{IsWarning}
use Rattle.fmp_warnings.specs.declared.found.FoundWarnings.{FoundWarnings}
use Rattle.fmp_warnings.specs.declared.found.Warning.{Warning}

abbrev pub is_minus : TokenKind → Bool
is_minus (kind.Symbol symbol.Minus) = true
is_minus _ = false

-- where a token is shown: a minus with the token after it in its line
abbrev pub shown_before : Token → Option Token → TokenPosition
shown_before t (Some next) =
    let joins = is_minus t.kind && (next.line == t.line) in
    record { line = t.line; start = t.start; end = if joins then next.end else t.end }
shown_before t None = position_of t

abbrev pub shown_of : Option Token → Option Token → TokenPosition
shown_of (Some t) next = shown_before t next
shown_of None next = text_start

abbrev pub shown_at : List Token → ℕ → TokenPosition
shown_at ts at = shown_of (slice_get ts at) (slice_get ts (at + 1))

-- a warning says this of the token at a place of a text
pub record IsSaidAt (f : TextFile) (text : List ℕ) (ts : List Token) (at : ℕ) (sentence : List ℕ) (w : Warning)
    : Type 0 where
  pub of_file : w.file ≡ f
  pub finding : IsWarning text (shown_at ts at) sentence w.finding

-- the warnings of the same texts, and one more, of which this holds
abbrev pub AddsOne : (Warning → Type 0) → (old new : FoundWarnings) → Type 0
AddsOne P old new = (w : Warning) × P w × (new.texts ≡ old.texts) × (new.list.items ≡ old.list.items ++ w ∷ [])

-- What a rule picks of these places, in order: one thing for each place of which it holds, and nothing for others.
pub data ArePicked {X Y : Type 0} (Rule : X → Y → Type 0) : (places : List X) → List Y → Type 0 where
  none : ArePicked Rule [] []
  picked : {places : List X} {ys : List Y} (x : X) (y : Y) → ArePicked Rule places ys → Rule x y →
      ArePicked Rule (places ++ x ∷ []) (ys ++ y ∷ [])
  passed : {places : List X} {ys : List Y} (x : X) → ArePicked Rule places ys → ((y : Y) → Rule x y → ⊥) →
      ArePicked Rule (places ++ x ∷ []) ys

-- the warnings of the same texts, and those of these places
abbrev pub Adds : {X : Type 0} → (X → Warning → Type 0) → List X → (old new : FoundWarnings) → Type 0
Adds Rule places old new =
    (ws : List Warning) × ArePicked Rule places ws × (new.texts ≡ old.texts)
    × (new.list.items ≡ old.list.items ++ ws)
