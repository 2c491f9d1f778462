-- The line of a text that holds a position, and how it is shown with marks under a token.
use Rattle.std.specs.Prelude.{◌≡◌, ℕ, ◌+◌, ◌-◌, ◌<◌, ◌≤◌, ◌==◌, ◌&&◌, ◌||◌, nat_lt, nat_le, Bool, true, false, not}
use Rattle.std.specs.Prelude.{if◌then◌else◌, List, [], ◌∷◌, ◌++◌, flat_map, length, map, max, min, replicate}
use Rattle.std.specs.Prelude.{slice_index, slice_range}
use Rattle.std.specs.List.{filter}
use Rattle.fmp_diagnosis.specs.declared.excerpt.Excerpt.{Excerpt}

-- The line that holds the position `at`: from `begin` up to `finish`, between two line feeds or the ends of the text.
pub record IsLine (text : List ℕ) (at begin finish : ℕ) : Type 0 where
  pub from : begin ≤ at
  pub to : at ≤ finish
  pub within : finish ≤ length text
  pub one : (k : ℕ) → begin ≤ k → k < finish → (slice_index text k == 10) ≡ false
  pub first : 0 < begin → (slice_index text (begin - 1) == 10) ≡ true
  pub last : finish < length text → (slice_index text finish == 10) ≡ true

-- where the line ends without a carriage return after the position
abbrev pub without_return : List ℕ → ℕ → ℕ → ℕ
without_return text at finish =
    if nat_lt at finish && (slice_index text (finish - 1) == 13) then finish - 1 else finish

-- a line of more than 100 bytes is not shown whole
abbrev pub is_long : ℕ → ℕ → Bool
is_long begin finish = nat_lt (begin + 100) finish

-- what is shown of it begins at most 47 bytes before the position, and has at most 94 bytes
abbrev pub shown_from : ℕ → ℕ → ℕ → ℕ
shown_from begin finish at = if is_long begin finish then max begin (at - 47) else begin

abbrev pub shown_to : ℕ → ℕ → ℕ → ℕ
shown_to begin finish i = if is_long begin finish then min finish (i + 94) else finish

-- `...` where something is left out
abbrev pub dots : Bool → List ℕ
dots left_out = if left_out then 46 ∷ 46 ∷ 46 ∷ [] else []

-- a byte that a terminal would obey
abbrev pub is_control : ℕ → Bool
is_control b = (nat_lt b 32 && not (b == 9)) || (b == 127)

-- in its place stands its picture, one of the characters from U+2400 on
abbrev pub picture : ℕ → List ℕ
picture b = 226 ∷ 144 ∷ (if b == 127 then 161 else 128 + b) ∷ []

abbrev pub shown_byte : ℕ → List ℕ
shown_byte b = if is_control b then picture b else b ∷ []

-- the line from i up to j
abbrev pub shown : List ℕ → ℕ → ℕ → ℕ → ℕ → List ℕ
shown text begin finish i j =
    dots (nat_lt begin i) ++ flat_map shown_byte (slice_range text i j) ++ dots (nat_lt j finish)

-- what stands under a byte: a tab under a tab, else a space, and nothing under a byte that goes on with a character
abbrev pub begins_character : ℕ → Bool
begins_character b = not (nat_le 128 b && nat_lt b 192)

abbrev pub blank : ℕ → ℕ
blank b = if b == 9 then 9 else 32

abbrev pub blanks : List ℕ → List ℕ
blanks bytes = map blank (filter begins_character bytes)

-- a `^` for each character that begins in these bytes, or one
abbrev pub carets : List ℕ → List ℕ
carets bytes = replicate (max 1 (length (filter begins_character bytes))) 94

-- what stands under the line from i on: a `^` under each character from `at` up to `end` that is shown, or one
abbrev pub marks : List ℕ → ℕ → ℕ → ℕ → ℕ → ℕ → List ℕ
marks text begin i j at end =
    blanks (dots (nat_lt begin i)) ++ blanks (slice_range text i at) ++ carets (slice_range text at (min end j))

-- The line of the position `at`, with marks under the token that stands there up to `end`. Its column counts bytes.
pub record IsExcerpt (text : List ℕ) (at end : ℕ) (e : Excerpt) : Type 0 where
  pub begin : ℕ
  pub after : ℕ
  pub line : IsLine text at begin after
  pub column : e.column ≡ at - begin + 1
  pub shows :
      let finish = without_return text at after in
      let i = shown_from begin finish at in e.line.items ≡ shown text begin finish i (shown_to begin finish i)
  pub marks :
      let finish = without_return text at after in
      let i = shown_from begin finish at in e.marks.items ≡ marks text begin i (shown_to begin finish i) at end
