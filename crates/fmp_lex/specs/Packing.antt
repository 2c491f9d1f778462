-- Tokens in few bytes: a name is a place in the text.
use Rattle.std.specs.Prelude.{◌≡◌, ℕ, pos, ◌+◌, ◌<◌, ◌≤◌, List, length, slice_range}
use Rattle.fmp_base.specs.Names.{name_from}
use Rattle.fmp_lex.specs.declared.cutting.Segment.{Segment}
use Rattle.fmp_lex.specs.declared.cutting.Segment.TheVariants as segment
use Rattle.fmp_lex.specs.declared.packed.Packed.{Packed}
use Rattle.fmp_lex.specs.declared.packed.TokenShape.{TokenShape}
use Rattle.fmp_lex.specs.declared.packed.TokenShape.TheVariants as shape
use Rattle.fmp_lex.specs.declared.token.LexFault.TheVariants.{Syntax}
use Rattle.fmp_lex.specs.declared.token.Token.{Token}
use Rattle.fmp_lex.specs.declared.token.TokenKind.{TokenKind}
use Rattle.fmp_lex.specs.declared.token.TokenKind.TheVariants as kind
use Rattle.fmp_lex.specs.Cutting.{Piece, Skip, Whole, Fault, IsPiece, line_at}

-- what a token of this shape is in a text
abbrev pub kind_in : List ℕ → TokenShape → TokenKind
kind_in text (shape.Number n) = kind.Number (pos n)
kind_in text (shape.Name size start) = kind.Name (name_from (slice_range text start (start + size)))
kind_in text (shape.Constant c) = kind.Constant c
kind_in text (shape.Api a) = kind.Api a
kind_in text (shape.Service s) = kind.Service s
kind_in text (shape.Keyword k) = kind.Keyword k
kind_in text (shape.Symbol s) = kind.Symbol s
kind_in text (shape.Bad f) = kind.Bad f

-- a name has 1 to 31 bytes of the text
abbrev pub Stands : List ℕ → TokenShape → Type 0
Stands text (shape.Name size start) = (0 < size) × (size ≤ 31) × (start + size ≤ length text)
Stands text _ = Unit {0}

-- the token of these few bytes in a text
abbrev pub whole_in : List ℕ → Packed → Token
whole_in text p =
    record { kind = kind_in text p.shape; line = line_at text p.start; start = p.start; end = p.end.value }

-- what stands for a token that is not held
abbrev pub absent : Token
absent = record { kind = kind.Bad Syntax; line = 1; start = 0; end = 0 }

-- where a piece ends that begins at i; where no token stands, it has no bytes
abbrev pub end_after : ℕ → Piece → ℕ
end_after i (Skip j) = j
end_after i (Whole k j) = j
end_after i (Fault f) = i

-- the token is the piece that begins at its start; if it is a name, the name stands in the text
abbrev pub IsPacked : List ℕ → Packed → Type 0
IsPacked text p =
    Stands text p.shape × (p.start < length text)
    × ((q : Piece) × IsPiece text p.start q × (p.end.value ≡ end_after p.start q))

-- the piece of a text that a segment is
abbrev pub piece_in : List ℕ → Segment → Piece
piece_in text (segment.Skip j) = Skip j
piece_in text (segment.Whole s j) = Whole (kind_in text s) j
piece_in text (segment.Fault f) = Fault f

-- if it is a name, the name stands in the text
abbrev pub HasName : List ℕ → Segment → Type 0
HasName text (segment.Skip j) = Unit {0}
HasName text (segment.Whole s j) = Stands text s
HasName text (segment.Fault f) = Unit {0}

-- a word of the language is no name
abbrev pub IsPlain : TokenShape → Type 0
IsPlain (shape.Name size start) = ⊥
IsPlain _ = Unit {0}
