-- A window on the tokens of a text: the tokens of a part of it, and those that were passed before.
use Rattle.std.specs.Prelude.{◌≡◌, ℕ, ◌<◌, ◌≤◌, List, [], ◌∷◌, ◌++◌, length, drop, Option, Some, None}
use Rattle.fmp_lex.specs.declared.token.LexFault.{LexFault}
use Rattle.fmp_lex.specs.declared.token.Token.{Token}
use Rattle.fmp_lex.specs.declared.token.TokenKind.{TokenKind}
use Rattle.fmp_lex.specs.declared.window.Window.{Window}
use Rattle.fmp_lex.specs.Cutting.{Skip, Whole, Fault, IsPiece, line_at}
use Rattle.fmp_lex.specs.Faults.{text_max}
use Rattle.fmp_lex.specs.Reading.{Rel, kinds_of}

-- the text from i on is cut into these tokens up to `next`, without a fault
pub data CutsUpTo (text : List ℕ) (next : ℕ) : ℕ → List Token → Type 0 where
  here : (i : ℕ) → i ≡ next → CutsUpTo text next i []
  skipped : (i j : ℕ) (ts : List Token) → i < length text → IsPiece text i (Skip j) → CutsUpTo text next j ts →
      CutsUpTo text next i ts
  token : (i j : ℕ) (k : TokenKind) (ts : List Token) → i < length text → IsPiece text i (Whole k j) →
      CutsUpTo text next j ts →
      CutsUpTo text next i (record { kind = k; line = line_at text i; start = i; end = j } ∷ ts)

-- neither a token nor spaces nor a comment begin at i
abbrev pub IsFaultAt : List ℕ → ℕ → Type 0
IsFaultAt text i = (f : LexFault) × IsPiece text i (Fault f)

-- a part of a text that is cut up to `stop` ends there or after, or where no token begins
abbrev pub IsPartEnd : List ℕ → ℕ → ℕ → Option LexFault → Type 0
IsPartEnd text stop i None = stop ≤ i
IsPartEnd text stop i (Some f) = (i < length text) × IsPiece text i (Fault f)

-- the window lies on a text that is not too long
abbrev pub IsWindow : Window → Type 0
IsWindow w = (length w.text.now ≤ text_max) × (w.next ≤ length w.text.now)

-- These are the text's tokens before the one at a place of the window. After them the text is cut into those of the
-- window from that place on.
pub record Passed (w : Window) (before : List Token) (at : ℕ) : Type 0 where
  pub count : length before ≡ at
  pub within : at ≤ length w.tokens
  pub cut : (c : ℕ) × CutsUpTo w.text.now c 0 before × CutsUpTo w.text.now w.next c (drop at w.tokens)

-- An X was read at a place while the window moved: after the tokens that were passed before, more were passed, and
-- they spell it.
abbrev pub Streams : {A : Type 0} → Rel A → (old new : Window) → ℕ → A → ℕ → Type 0
Streams X old new i a j =
    (before : List Token) → Passed old before i →
    (more : List Token) × Passed new (before ++ more) j × ((limit : ℕ) → X (kinds_of (before ++ more)) limit i a j)
