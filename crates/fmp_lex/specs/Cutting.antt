-- How a text is cut into pieces: spaces, comments and tokens.
use Rattle.std.specs.Prelude.{◌≡◌, ℕ, pos, ◌+◌, ◌-◌, ◌<◌, ◌≤◌, ◌⊎◌, ◌==◌, ◌&&◌, nat_lt, nat_le, Bool, true}
use Rattle.std.specs.Prelude.{if◌then◌else◌, List, [], ◌∷◌, length, slice_index, slice_range, count_by, take, Option}
use Rattle.std.specs.Prelude.{Some, None, option_map}
use Rattle.std.specs.Option.{option_or}
use Rattle.fmp_base.specs.Names.{name_from}
use Rattle.fmp_lex.specs.declared.token.LexFault.{LexFault}
use Rattle.fmp_lex.specs.declared.token.LexFault.TheVariants.{Syntax, Limit}
use Rattle.fmp_lex.specs.declared.token.Symbol.{Symbol}
use Rattle.fmp_lex.specs.declared.token.Symbol.TheVariants as symbol
use Rattle.fmp_lex.specs.declared.token.TokenKind.{TokenKind}
use Rattle.fmp_lex.specs.declared.token.TokenKind.TheVariants as kind
use Rattle.fmp_lex.specs.declared.token.Token.{Token}
use Rattle.fmp_lex.specs.declared.scanning.ByteClass.TheVariants as class
use Rattle.fmp_lex.specs.declared.cutting.PieceStart.{PieceStart}
use Rattle.fmp_lex.specs.declared.cutting.PieceStart.TheVariants as start
use Rattle.fmp_base.specs.Words.{is_digit, is_letter, is_word}
use Rattle.fmp_lex.specs.Scanning.{is_space, in_class, IsRun, IsFirstClose, NeverCloses, value_from, greatest}
use Rattle.fmp_base.specs.Words.{constant_named, api_named, service_named, keyword_named}

-- a piece of a text: spaces or a comment, or a token, up to a place; or no piece begins
pub data Piece : Type 0 where
  Skip : ℕ → Piece
  Whole : TokenKind → ℕ → Piece
  Fault : LexFault → Piece

-- the symbol of two bytes, if there is one
abbrev pub long_symbol : ℕ → ℕ → Option Symbol
long_symbol b c =
    if (b == 38) && (c == 38) then Some symbol.AndAnd
    else (if (b == 124) && (c == 124) then Some symbol.OrOr
    else (if (b == 61) && (c == 61) then Some symbol.Equal
    else (if (b == 33) && (c == 61) then Some symbol.NotEqual
    else (if (b == 60) && (c == 61) then Some symbol.LessEqual
    else (if (b == 62) && (c == 61) then Some symbol.GreaterEqual else None)))))

-- the symbol of one byte, if there is one
abbrev pub short_symbol : ℕ → Option Symbol
short_symbol b =
    if b == 40 then Some symbol.LeftParen
    else (if b == 41 then Some symbol.RightParen
    else (if b == 123 then Some symbol.LeftBrace
    else (if b == 125 then Some symbol.RightBrace
    else (if b == 91 then Some symbol.LeftBracket
    else (if b == 93 then Some symbol.RightBracket
    else (if b == 44 then Some symbol.Comma
    else (if b == 59 then Some symbol.Semicolon
    else (if b == 124 then Some symbol.Or
    else (if b == 38 then Some symbol.And
    else (if b == 94 then Some symbol.Xor
    else (if b == 126 then Some symbol.Tilde
    else (if b == 33 then Some symbol.Not
    else (if b == 61 then Some symbol.Assign
    else (if b == 60 then Some symbol.Less
    else (if b == 62 then Some symbol.Greater
    else (if b == 43 then Some symbol.Plus
    else (if b == 45 then Some symbol.Minus
    else (if b == 42 then Some symbol.Star
    else (if b == 47 then Some symbol.Slash
    else (if b == 37 then Some symbol.Percent else None))))))))))))))))))))

-- whether a letter, a digit or `_` stands at j
abbrev pub is_followed : List ℕ → ℕ → Bool
is_followed text j = nat_lt j (length text) && is_word (slice_index text j)

-- the number of value n whose digits end at j. It fits if it has not too many digits.
abbrev pub number_piece : List ℕ → ℕ → Bool → ℕ → Piece
number_piece text j fits n =
    if is_followed text j then Fault Syntax
    else (if fits && nat_le n greatest then Whole (kind.Number (pos n)) j else Fault Limit)

-- the number of the hexadecimal digits from i up to j: 1 to 8 of them
abbrev pub hex_piece : List ℕ → ℕ → ℕ → Piece
hex_piece text i j =
    if j == i then Fault Syntax
    else number_piece text j (nat_le (j - i) 8) (value_from 16 0 (slice_range text i j))

-- the word that these bytes are, if they are one
abbrev pub word_kind : List ℕ → Option TokenKind
word_kind bytes =
    option_or (option_map kind.Constant (constant_named bytes))
    (option_or (option_map kind.Api (api_named bytes))
    (option_or (option_map kind.Service (service_named bytes)) (option_map kind.Keyword (keyword_named bytes))))

-- the word, or else the name of these bytes, of which there are 1 to 31, up to j
abbrev pub word_or_name : List ℕ → ℕ → Option TokenKind → Piece
word_or_name bytes j (Some word) = Whole word j
word_or_name bytes j None = if nat_le (length bytes) 31 then Whole (kind.Name (name_from bytes)) j else Fault Limit

-- the word or the name of these bytes up to j
abbrev pub word_piece : List ℕ → ℕ → Piece
word_piece bytes j = word_or_name bytes j (word_kind bytes)

-- the symbol of one byte at i
abbrev pub short_piece : ℕ → Option Symbol → Piece
short_piece i (Some s) = Whole (kind.Symbol s) (i + 1)
short_piece i None = Fault Syntax

-- the symbol of two bytes at i, or else that of one
abbrev pub long_piece : ℕ → Option Symbol → Option Symbol → Piece
long_piece i (Some s) short = Whole (kind.Symbol s) (i + 2)
long_piece i None short = short_piece i short

-- the longest symbol at i, where these two bytes stand
abbrev pub symbol_piece : ℕ → ℕ → ℕ → Piece
symbol_piece i b c = long_piece i (long_symbol b c) (short_symbol b)

-- how a piece begins, by its first two bytes (0 past the end)
abbrev pub start_of : ℕ → ℕ → PieceStart
start_of b c =
    if is_space b then start.Space
    else (if (b == 47) && (c == 47) then start.LineComment
    else (if (b == 47) && (c == 42) then start.BlockComment
    else (if is_letter b then start.Word
    else (if (b == 48) && (c == 120) then start.Hex
    else (if b == 48 then start.Zero
    else (if is_digit b then start.Decimal else start.Other))))))

-- what begins so at i is this piece
abbrev pub IsPieceOf : List ℕ → ℕ → PieceStart → Piece → Type 0
IsPieceOf text i start.Space p = (j : ℕ) × IsRun (in_class class.Space) text (i + 1) j × (p ≡ Skip j)
IsPieceOf text i start.LineComment p = (j : ℕ) × IsRun (in_class class.SameLine) text (i + 1) j × (p ≡ Skip j)
IsPieceOf text i start.BlockComment p =
    ((j : ℕ) × IsFirstClose text (i + 2) j × (p ≡ Skip (j + 2))) ⊎ (NeverCloses text (i + 2) × (p ≡ Fault Syntax))
IsPieceOf text i start.Word p =
    (j : ℕ) × IsRun (in_class class.Word) text (i + 1) j × (p ≡ word_piece (slice_range text i j) j)
IsPieceOf text i start.Zero p = p ≡ number_piece text (i + 1) true 0
IsPieceOf text i start.Hex p = (j : ℕ) × IsRun (in_class class.Hex) text (i + 2) j × (p ≡ hex_piece text (i + 2) j)
IsPieceOf text i start.Decimal p =
    (j : ℕ)
    × IsRun (in_class class.Digit) text (i + 1) j
    × (p ≡ number_piece text j true (value_from 10 0 (slice_range text i j)))
IsPieceOf text i start.Other p = p ≡ symbol_piece i (slice_index text i) (slice_index text (i + 1))

-- the piece that begins at i
abbrev pub IsPiece : List ℕ → ℕ → Piece → Type 0
IsPiece text i p = IsPieceOf text i (start_of (slice_index text i) (slice_index text (i + 1))) p

-- the piece takes a byte or more
abbrev pub EndsWithin : List ℕ → ℕ → Piece → Type 0
EndsWithin text i (Skip j) = (i < j) × (j ≤ length text)
EndsWithin text i (Whole k j) = (i < j) × (j ≤ length text)
EndsWithin text i (Fault f) = Unit {0}

-- the line of the byte at i: the line feeds before it, and 1
abbrev pub line_at : List ℕ → ℕ → ℕ
line_at text i = count_by (λ b. b == 10) (take i text) + 1

-- the line on which a text ends
abbrev pub end_line_of : List ℕ → ℕ
end_line_of text = count_by (λ b. b == 10) text + 1

-- The text from i on is cut into these tokens. A fault is the last one.
pub data Cuts (text : List ℕ) : ℕ → List Token → Type 0 where
  ended : (i : ℕ) → length text ≤ i → Cuts text i []
  skipped : (i j : ℕ) (ts : List Token) → i < length text → IsPiece text i (Skip j) → Cuts text j ts → Cuts text i ts
  token : (i j : ℕ) (k : TokenKind) (ts : List Token) → i < length text → IsPiece text i (Whole k j) → Cuts text j ts →
      Cuts text i (record { kind = k; line = line_at text i; start = i; end = j } ∷ ts)
  faulty : (i : ℕ) (f : LexFault) → i < length text → IsPiece text i (Fault f) →
      Cuts text i (record { kind = kind.Bad f; line = line_at text i; start = i; end = i } ∷ [])
