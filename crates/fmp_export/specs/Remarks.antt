-- The comments of a text in C, which are lines that begin with `//`, and its lines for a debugger.
use Rattle.std.specs.Prelude.{ℕ, ◌-◌, ◌==◌, nat_eq, nat_lt, List, [], ◌∷◌, ◌++◌, codes, decimal, length, drop}
use Rattle.std.specs.Prelude.{slice_get, take, Bool, true, false, ◌||◌, ◌&&◌, not, if◌then◌else◌, Option, Some, None}
use Rattle.std.specs.Char.{is_ascii_whitespace}
use Rattle.std.specs.List.{prefix_len, suffix_len, starts_with, ends_with}
use Rattle.fmp_lex.specs.declared.token.Token.{Token}
use Rattle.fmp_export.specs.declared.source.Landmark.{Landmark}
use Rattle.fmp_export.specs.Sources.{SourceText, place_after, gaps}

-- a byte that no editor shows, but for tabs
abbrev pub is_hidden : ℕ → Bool
is_hidden b = (nat_lt b 32 && not (b == 9)) || (b == 127)

-- a byte in C: a space for one that is hidden
abbrev pub shown : ℕ → ℕ
shown b = if is_hidden b then 32 else b

-- a line without the space at its end, and at both ends
abbrev pub trimmed_end : List ℕ → List ℕ
trimmed_end line = take (length line - suffix_len is_ascii_whitespace line) line

abbrev pub trimmed : List ℕ → List ℕ
trimmed line = trimmed_end (drop (prefix_len is_ascii_whitespace line) line)

-- a line of a block comment without `*/` at its end, and without `/*` or `*` at its front
abbrev pub without_close : List ℕ → List ℕ
without_close line = if ends_with nat_eq line (codes "*/") then take (length line - 2) line else line

abbrev pub without_open : List ℕ → List ℕ
without_open line =
    if starts_with nat_eq line (codes "/*") then drop 2 line
    else (if starts_with nat_eq line (codes "*") then drop 1 line else line)

-- a comment that says this, if it says anything
abbrev pub saying : List ℕ → List ℕ
saying [] = []
saying (b ∷ bs) = codes "// " ++ (b ∷ bs)

-- a line comment stays as it is; a line of a block comment becomes one
abbrev pub line_comment : List ℕ → List ℕ
line_comment line =
    if starts_with nat_eq line (codes "//") then line else saying (trimmed (without_open (without_close line)))

-- C would read this end of a line as a backslash, and so the next line as a comment too
abbrev pub is_open : List ℕ → Bool
is_open line = ends_with nat_eq line (codes "\\") || ends_with nat_eq line (codes "??/")

-- such a line gets a full stop
abbrev pub stopped : (is_open : Bool) → List ℕ → List ℕ
stopped true line = line ++ codes " ."
stopped false line = line

abbrev pub closed : List ℕ → List ℕ
closed line = stopped (is_open line) line

-- a block comment ends with this piece of a line
abbrev pub closes : (piece : List ℕ) → Bool
closes piece = ends_with nat_eq piece (codes "*/") && not (starts_with nat_eq (trimmed piece) (codes "//"))

-- the comment of a further piece of a line, after those before it
abbrev pub spaced : (comments : List ℕ) → List ℕ
spaced [] = []
spaced (b ∷ bs) = (b ∷ bs) ++ codes " "

abbrev pub further : (comments comment : List ℕ) → List ℕ
further comments [] = comments
further comments (c ∷ cs) = spaced comments ++ (c ∷ cs)

abbrev pub with_piece : (comments piece : List ℕ) → List ℕ
with_piece comments piece = further comments (line_comment (trimmed piece))

-- the comments of a line, after those before it and a piece that is begun: each block comment ends a piece
abbrev pub line_comments : (comments piece : List ℕ) → List ℕ → List ℕ
line_comments comments piece [] = with_piece comments piece
line_comments comments piece (b ∷ bs) =
    if closes (piece ++ b ∷ []) then line_comments (with_piece comments (piece ++ b ∷ [])) [] bs
    else line_comments comments (piece ++ b ∷ []) bs

-- the comments of a line that stands between two tokens; nothing if there is only space
abbrev pub comment : List ℕ → List ℕ
comment line = closed (line_comments [] [] line)

-- after the code of its line, or in a line of its own
abbrev pub after_code : (remark : List ℕ) → List ℕ
after_code [] = []
after_code (b ∷ bs) = codes " " ++ (b ∷ bs)

abbrev pub own_line : (margin remark : List ℕ) → List ℕ
own_line margin [] = []
own_line margin (b ∷ bs) = margin ++ ((b ∷ bs) ++ codes "\n")

-- the first line of this, after bytes of it that are shown already, and what stands after that line
abbrev pub first_line : (begun : List ℕ) → List ℕ → List ℕ
first_line line [] = line
first_line line (b ∷ bs) = if b == 10 then line else first_line (line ++ shown b ∷ []) bs

abbrev pub other_lines : List ℕ → List ℕ
other_lines [] = []
other_lines (b ∷ bs) = if b == 10 then bs else other_lines bs

-- the comments of lines, of which the first begins with these bytes, each in a line of its own
abbrev pub own_lines : (margin begun : List ℕ) → List ℕ → List ℕ
own_lines margin line [] = own_line margin (comment line)
own_lines margin line (b ∷ bs) =
    if b == 10 then own_line margin (comment line) ++ own_lines margin [] bs
    else own_lines margin (line ++ shown b ∷ []) bs

-- the comments of a gap: that of its first line after the code, the others in lines of their own
abbrev pub c_after : (gap : List ℕ) → List ℕ
c_after gap = after_code (comment (first_line [] gap))

abbrev pub c_above : (margin gap : List ℕ) → List ℕ
c_above margin gap = own_lines margin [] (other_lines gap)

unfoldable pub c_line_end : (margin gap : List ℕ) → List ℕ
c_line_end margin gap = c_after gap ++ (codes "\n" ++ c_above margin gap)

-- the end of a line of C for the tokens from a place up to a landmark: all comments that stand after one of them
abbrev pub c_finish : (margin : List ℕ) → Landmark → SourceText → (at : ℕ) → List ℕ
c_finish margin l s at = c_line_end margin (gaps s at (place_after l s at))

-- the next line of C is this one of the text
unfoldable pub line_directive : (line : ℕ) → List ℕ
line_directive line = codes "#line " ++ (decimal line ++ codes " \"system.src\"\n")

-- what tells a debugger that the next line of C is that of a token
abbrev pub directive : Option Token → (lines : Bool) → List ℕ
directive None lines = []
directive (Some t) true = line_directive t.line
directive (Some t) false = []

abbrev pub c_directive : SourceText → (at : ℕ) → List ℕ
c_directive s at = directive (slice_get s.tokens at) s.lines
