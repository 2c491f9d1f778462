-- A text and its tokens, in which the writers of C look up how a number is written and where a statement ends.
use Rattle.std.specs.Prelude.{ℕ, ◌+◌, nat_lt, List, [], ◌∷◌, ◌++◌, length, drop, take, slice_get, Bool, true, false}
use Rattle.std.specs.Prelude.{if◌then◌else◌, Option, Some, None}
use Rattle.fmp_base.specs.declared.words.Keyword.TheVariants as keyword
use Rattle.fmp_lex.specs.declared.token.Symbol.TheVariants as symbol
use Rattle.fmp_lex.specs.declared.token.Token.{Token}
use Rattle.fmp_lex.specs.declared.token.TokenKind.{TokenKind}
use Rattle.fmp_lex.specs.declared.token.TokenKind.TheVariants as kind
use Rattle.fmp_export.specs.declared.source.Landmark.{Landmark}
use Rattle.fmp_export.specs.declared.source.Landmark.TheVariants as landmark
use Rattle.fmp_export.specs.declared.source.LexedText as declared

pub record SourceText : Type 0 where
  pub text : List ℕ
  pub tokens : List Token
  -- C tells its debugger the lines of the text
  pub lines : Bool

-- what a `LexedText` holds
abbrev pub source_view : declared.LexedText → SourceText
source_view s = record { text = s.text.now; tokens = s.tokens.items; lines = s.lines }

-- no text at all: numbers are written by their values, and there are no comments
abbrev pub no_source : SourceText
no_source = record { text = []; tokens = []; lines = false }

-- a token is what is looked for; a number may be a constant
abbrev pub is_landmark : Landmark → TokenKind → Bool
is_landmark landmark.Number (kind.Number n) = true
is_landmark landmark.Number (kind.Constant c) = true
is_landmark landmark.Semicolon (kind.Symbol symbol.Semicolon) = true
is_landmark landmark.LeftBrace (kind.Symbol symbol.LeftBrace) = true
is_landmark landmark.RightBrace (kind.Symbol symbol.RightBrace) = true
is_landmark landmark.Else (kind.Keyword keyword.Else) = true
is_landmark _ _ = false

-- the place after the first landmark of these tokens, which begin at a place; after all of them if there is none
abbrev pub place_after_in : Landmark → (at : ℕ) → List Token → ℕ
place_after_in l at [] = at
place_after_in l at (t ∷ ts) = if is_landmark l t.kind then at + 1 else place_after_in l (at + 1) ts

-- the place after the first landmark from a place on
unfoldable pub place_after : Landmark → SourceText → (at : ℕ) → ℕ
place_after l s at = place_after_in l at (drop at s.tokens)

-- the first landmark of these tokens
abbrev pub landmark_in : Landmark → List Token → Option Token
landmark_in l [] = None
landmark_in l (t ∷ ts) = if is_landmark l t.kind then Some t else landmark_in l ts

-- a landmark stands at a place
abbrev pub is_kind : Landmark → Option Token → Bool
is_kind l (Some t) = is_landmark l t.kind
is_kind l None = false

abbrev pub stands_at : Landmark → SourceText → (at : ℕ) → Bool
stands_at l s at = is_kind l (slice_get s.tokens at)

-- where the first of these tokens begins, or the text ends
abbrev pub start_of : (text : List ℕ) → List Token → ℕ
start_of text [] = length text
start_of text (t ∷ ts) = t.start

-- what stands between a token and those after it: space and comments
abbrev pub gap : (text : List ℕ) → Token → List Token → List ℕ
gap text t ts = drop t.end (take (start_of text ts) text)

-- what stands after each of these tokens, which begin at a place, up to another place
abbrev pub gaps_in : (text : List ℕ) → (at to : ℕ) → List Token → List ℕ
gaps_in text at to [] = []
gaps_in text at to (t ∷ ts) = if nat_lt at to then gap text t ts ++ gaps_in text (at + 1) to ts else []

-- what stands after each of the tokens from a place up to another
unfoldable pub gaps : SourceText → (from to : ℕ) → List ℕ
gaps s from to = gaps_in s.text from to (drop from s.tokens)

-- what stands before the first token
abbrev pub head_of : SourceText → List ℕ
head_of s = take (start_of s.text s.tokens) s.text
