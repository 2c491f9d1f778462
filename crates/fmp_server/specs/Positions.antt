-- Where bytes of a text stand for an editor.
use Rattle.std.specs.Prelude.{◌≡◌, ℕ, ◌-◌, ◌<◌, ◌≤◌, ◌==◌, ◌&&◌, nat_lt, nat_le, true, false, if◌then◌else◌, List}
use Rattle.std.specs.Prelude.{◌+◌, [], ◌∷◌, length, min, take, drop, slice_index, slice_range, sum_by, count_by}
use Rattle.fmp_lex.specs.declared.position.TokenPosition.{TokenPosition}
use Rattle.fmp_server.specs.declared.positions.Position.{Position}
use Rattle.fmp_server.specs.declared.positions.TextRange.{TextRange}

-- how many UTF-16 units begin with a byte
abbrev pub units : ℕ → ℕ
units b = if nat_le 128 b && nat_lt b 192 then 0 else (if nat_le 240 b then 2 else 1)

abbrev pub width : List ℕ → ℕ
width bytes = sum_by units bytes

-- The position of the byte `at` in a line: after the units from the line's first byte on.
pub record IsPosition (text : List ℕ) (line at : ℕ) (p : Position) : Type 0 where
  pub line_is : p.line ≡ line
  pub begin : ℕ
  pub from : begin ≤ at
  pub one : (k : ℕ) → begin ≤ k → k < at → (slice_index text k == 10) ≡ false
  pub first : 0 < begin → (slice_index text (begin - 1) == 10) ≡ true
  pub character : p.character ≡ width (slice_range text begin at)

-- What stands from one byte up to another.
pub record IsRange (text : List ℕ) (line start end : ℕ) (r : TextRange) : Type 0 where
  pub start_is : IsPosition text line (min start (length text)) r.start
  pub end_is : IsPosition text line (min end (length text)) r.end

-- what stands at each of these positions, in order
abbrev pub AreRanges : (text : List ℕ) → List TokenPosition → List TextRange → Type 0
AreRanges text [] rs = rs ≡ []
AreRanges text (p ∷ ps) rs =
    (r : TextRange) × (more : List TextRange) × (rs ≡ r ∷ more) × IsRange text (p.line - 1) p.start p.end r
    × AreRanges text ps more

-- how many line feeds stand before a byte
abbrev pub line_feeds : (text : List ℕ) → (at : ℕ) → ℕ
line_feeds text at = count_by (λ b. b == 10) (take at text)

-- The line of this number, from 0, begins here: after as many line feeds, of which one is the last byte before; or the
-- text ends here, after fewer.
pub record IsLineStart (text : List ℕ) (line begin : ℕ) : Type 0 where
  pub within : begin ≤ length text
  pub few : line_feeds text begin ≤ line
  pub line_is : begin < length text → line_feeds text begin ≡ line
  pub first : line_feeds text begin ≡ line → 0 < begin → (slice_index text (begin - 1) == 10) ≡ true

-- The byte of a line at a character: the last one before which there are no more units, or before that the line feed.
pub record IsColumn (rest : List ℕ) (character column : ℕ) : Type 0 where
  pub within : column ≤ length rest
  pub one : (k : ℕ) → k < column → (slice_index rest k == 10) ≡ false
  pub before : width (take column rest) ≤ character
  pub last : column < length rest → (slice_index rest column == 10) ≡ false → character < width (take (column + 1) rest)

-- The byte at a position.
pub record IsOffset (text : List ℕ) (p : Position) (at : ℕ) : Type 0 where
  pub begin : ℕ
  pub column : ℕ
  pub start : IsLineStart text p.line begin
  pub column_is : IsColumn (drop begin text) p.character column
  pub at_is : at ≡ begin + column
