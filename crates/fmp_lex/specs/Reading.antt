-- What it is to read a list of tokens by a grammar: readings from one place up to another, what a reader
-- answers, when that is right, and the first fault of a list.
use Rattle.std.specs.Prelude.{◌≡◌, ℕ, ◌+◌, ◌<◌, ◌≤◌, List, [], ◌∷◌, ◌++◌, length, map, slice_get, take, Option, Some}
use Rattle.std.specs.Prelude.{option_and_then, Result, Ok, Err}
use Rattle.fmp_lex.specs.declared.token.Token.{Token}
use Rattle.fmp_lex.specs.declared.token.TokenKind.{TokenKind}
use Rattle.fmp_lex.specs.declared.reading.GrammarFault.{GrammarFault}
use Rattle.fmp_lex.specs.declared.reading.GrammarFault.TheVariants.{Syntax, Depth}
use Rattle.fmp_lex.specs.declared.reading.FirstFault.{FirstFault}
use Rattle.fmp_lex.specs.declared.reading.ReadError.{ReadError}
use Rattle.fmp_lex.specs.declared.reading.ReadError.TheVariants as errors

-- what the tokens are, without their places
abbrev pub kind_of : Token → TokenKind
kind_of token = token.kind

abbrev pub kinds_of : List Token → List TokenKind
kinds_of tokens = map kind_of tokens

-- Which tokens of a list spell what: the list, the place from which on the depth is not limited, the place of the
-- first token, what they spell, and the place after the last one.
abbrev pub Rel : Type 0 → Type 1
Rel A = List TokenKind → ℕ → ℕ → A → ℕ → Type 0

-- the readings from i on
abbrev pub At : {A : Type 0} → Rel A → ℕ → List TokenKind → ℕ → A → ℕ → Type 0
At X i ts limit a j = X ts limit i a j

-- one thing, and then another
abbrev pub Seq : {A B : Type 0} → Rel A → Rel B → Rel (A × B)
Seq X Y ts limit i p j = (k : ℕ) × X ts limit i p.0 k × Y ts limit k p.1 j

-- {x}: any number of them, one after another
abbrev pub Star : {A : Type 0} → Rel A → Rel (List A)
Star X ts limit i [] j = j ≡ i
Star X ts limit i (a ∷ more) j = (k : ℕ) × X ts limit i a k × Star X ts limit k more j

-- the token stands at i, and j is the next place
abbrev pub IsToken : List TokenKind → TokenKind → ℕ → ℕ → Type 0
IsToken ts t i j = (slice_get ts i ≡ Some t) × (j ≡ i + 1)

-- the token at i stands for a, and j is the next place
abbrev pub IsItem : {A : Type 0} → (TokenKind → Option A) → List TokenKind → ℕ → A → ℕ → Type 0
IsItem read ts i a j = (option_and_then read (slice_get ts i) ≡ Some a) × (j ≡ i + 1)

-- how many levels may be open at once
abbrev pub max_depth : ℕ
max_depth = 64

-- Of the tokens below `limit`, none opens a level too many. d is how many levels are open at the token at i.
abbrev pub Allows : ℕ → ℕ → ℕ → Type 0
Allows limit i d = i < limit → d < max_depth

-- the token stands at i and opens a level above the d that are open, and j is the next place
abbrev pub Opens : List TokenKind → ℕ → TokenKind → ℕ → ℕ → ℕ → Type 0
Opens ts limit t d i j = (slice_get ts i ≡ Some t) × Allows limit i d × (j ≡ i + 1)

-- the same as readings
abbrev pub OneToken : TokenKind → Rel (Unit {0})
OneToken t ts limit i a j = IsToken ts t i j

abbrev pub Item : {A : Type 0} → (TokenKind → Option A) → Rel A
Item read ts limit i a j = IsItem read ts i a j

abbrev pub Opening : TokenKind → ℕ → Rel (Unit {0})
Opening t d ts limit i a j = Opens ts limit t d i j

-- what was read and the place after it, or the place of the first fault
pub data ParseResult (A : Type 0) : Type 0 where
  found : A → ℕ → ParseResult A
  stopped : ℕ → GrammarFault → ParseResult A

abbrev pub place : {A : Type 0} → ParseResult A → ℕ
place (found a j) = j
place (stopped j why) = j

abbrev pub map_result : {A B : Type 0} → (A → B) → ParseResult A → ParseResult B
map_result f (found a j) = found (f a) j
map_result f (stopped j why) = stopped j why

-- how many tokens begin some list of the grammar: a token that opens a level too many does, one that is out of place
-- does not
abbrev pub covered : ℕ → GrammarFault → ℕ
covered j Syntax = j
covered j Depth = j + 1

-- below this place the depth is limited in the readings that there are none of
abbrev pub limited : ℕ → GrammarFault → ℕ
limited j Syntax = 0
limited j Depth = j + 1

abbrev pub limit_of : {A : Type 0} → ParseResult A → ℕ
limit_of (found a j) = 0
limit_of (stopped j why) = limited j why

-- the same tokens below n
abbrev pub Same : ℕ → List TokenKind → List TokenKind → Type 0
Same n ts us = (k : ℕ) → k < n → slice_get ts k ≡ slice_get us k

-- some list with the first n tokens of this one reads to its end
pub record Completes {A : Type 0} (X : List TokenKind → ℕ → A → ℕ → Type 0) (ts : List TokenKind) (n limit : ℕ) : Type 0
  where
    pub other : List TokenKind
    pub same : Same n ts other
    pub long : n ≤ length other
    pub tree : A
    pub reads : X other limit tree (length other)

-- what was found is read there at any limit; up to a fault the tokens begin something
abbrev pub Reads : {A : Type 0} → (List TokenKind → ℕ → A → ℕ → Type 0) → List TokenKind → ParseResult A → Type 0
Reads X ts (found a j) = (limit : ℕ) → X ts limit a j
Reads X ts (stopped j why) = Completes X ts (covered j why) j

-- the reading is that of the outcome
abbrev pub Matches : {A : Type 0} → ParseResult A → A → ℕ → Type 0
Matches (found a j) a' j' = (a' ≡ a) × (j' ≡ j)
Matches (stopped j why) a' j' = ⊥

-- The outcome of reading an X from i on. Every list that has the same tokens up to the place of the outcome, that one
-- too, reads alike, where no token follows that the reader would go on with.
pub record Right {A : Type 0} (X : List TokenKind → ℕ → A → ℕ → Type 0) (Ends : List TokenKind → ℕ → Type 0)
    (ts : List TokenKind) (i : ℕ) (o : ParseResult A) : Type 0 where
  pub from : i ≤ place o
  pub within : place o ≤ length ts
  pub reads : Reads X ts o
  pub decides : (us : List TokenKind) (limit : ℕ) (a : A) (j : ℕ) → Same (place o + 1) ts us → limit_of o ≤ limit →
      X us limit a j → Ends us j → Matches o a j

-- anything may follow
abbrev pub Anywhere : List TokenKind → ℕ → Type 0
Anywhere ts j = Unit {0}

abbrev pub RightToken : List TokenKind → TokenKind → ℕ → ParseResult (Unit {0}) → Type 0
RightToken ts t i = Right (At (OneToken t) i) Anywhere ts i

-- what a reader returned is right, unless memory ran out
abbrev pub Answers : {V A : Type 0} → (V → A) → Result (V × ℕ) ReadError → (ParseResult A → Type 0) → Type 0
Answers view (Ok x) P = P (found (view x.0) x.1)
Answers view (Err errors.Memory) P = Unit {0}
Answers view (Err (errors.Fault f)) P = P (stopped f.at f.why)

-- what a reader returned that takes no memory is right
abbrev pub Finds : {V A : Type 0} → (V → A) → Result (V × ℕ) FirstFault → (ParseResult A → Type 0) → Type 0
Finds view (Ok x) P = P (found (view x.0) x.1)
Finds view (Err f) P = P (stopped f.at f.why)

-- likewise where it returns a place alone
abbrev pub Steps : Result ℕ FirstFault → (ParseResult (Unit {0}) → Type 0) → Type 0
Steps (Ok j) P = P (found tt j)
Steps (Err f) P = P (stopped f.at f.why)

-- the whole list is of the grammar X, and spells this
abbrev pub IsWhole : {A : Type 0} → Rel A → List TokenKind → A → Type 0
IsWhole X ts a = X ts (length ts) 0 a (length ts)

-- some list of the grammar begins so; its tokens from `limit` on may open levels too many
abbrev pub Begins : {A : Type 0} → Rel A → ℕ → List TokenKind → Type 0
Begins {A} X limit front = (rest : List TokenKind) × (a : A) × X (front ++ rest) limit 0 a (length (front ++ rest))

-- The first fault stands at j. The tokens before it begin a list of the grammar. At a syntax fault they do not with the
-- token at j, or the text ends there. At a fault of depth they do, but this token opens a level too many.
abbrev pub IsFirstFault : {A : Type 0} → Rel A → List TokenKind → ℕ → GrammarFault → Type 0
IsFirstFault {A} X ts j Syntax =
    (j ≤ length ts)
    × Begins X j (take j ts) × (j < length ts → Begins X 0 (take (j + 1) ts) → ⊥) × ((a : A) → IsWhole X ts a → ⊥)
IsFirstFault {A} X ts j Depth =
    (j < length ts)
    × Begins X j (take (j + 1) ts) × (Begins X (j + 1) (take (j + 1) ts) → ⊥) × ((a : A) → IsWhole X ts a → ⊥)
