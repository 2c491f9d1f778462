-- How often the calls in each line of a text were made, and the tracefile of lcov that tells it.
use Rattle.std.specs.Prelude.{ℕ, zero, suc, ◌≡◌, ◌<◌, ◌≤◌, ◌==◌, ◌⊎◌, ◌||◌, Bool, true, false, not, if◌then◌else◌}
use Rattle.std.specs.Prelude.{List, [], ◌∷◌, ◌++◌, Option, Some, None, codes, count_by, decimal, length, map}
use Rattle.std.specs.List.{flat_map, list_any}
use Rattle.fmp_looking.specs.declared.tables.BranchCount.{BranchCount}
use Rattle.fmp_frames.specs.declared.call_positions.CallPosition.{CallPosition}
use Rattle.fmp_frames.specs.CallPositions.{is_service_at, line_at}
use Rattle.fmp_lex.specs.declared.token.Token.{Token}
use Rattle.fmp_lex.specs.Cutting.{Cuts}
use Rattle.fmp_lex.specs.Faults.{text_max}
use Rattle.fmp_looking.specs.declared.coverage.LineCount.{LineCount}
use Rattle.fmp_looking.specs.declared.lcov.Way.{Way}

-- this is the line
abbrev pub is_line : (line other : ℕ) → Bool
is_line line other = other == line

-- a line after others, unless it is one of them
abbrev pub with_line : List ℕ → ℕ → List ℕ
with_line lines line = if list_any (is_line line) lines then lines else lines ++ line ∷ []

-- the same with the line of the token at a place, if that names a service call
abbrev pub with_token : List ℕ → List Token → ℕ → List ℕ
with_token lines ts i = if is_service_at ts i then with_line lines (line_at ts i) else lines

-- the lines in which the first tokens, this many, name service calls, each once
abbrev pub lines_in : List Token → ℕ → List ℕ
lines_in ts zero = []
lines_in ts (suc n) = with_token (lines_in ts n) ts n

-- these are the lines of a text that have calls; of one that is too long to be read they are none
abbrev pub AreLinesOf : (text lines : List ℕ) → Type 0
AreLinesOf text lines =
    ((length text ≤ text_max) × ((ts : List Token) × Cuts text 0 ts × (lines ≡ lines_in ts (length ts))))
    ⊎ ((text_max < length text) × (lines ≡ []))

-- a call stands in a line
abbrev pub stands_in : ℕ → Option CallPosition → Bool
stands_in line None = false
stands_in line (Some p) = p.line == line

-- how many of these calls stand in a line
abbrev pub count_of : List (Option CallPosition) → ℕ → LineCount
count_of made line = record { line = line; count = count_by (stands_in line) made }

-- a line of a tracefile that tells how often a line of a text was reached
abbrev pub data_line : LineCount → List ℕ
data_line c = codes "DA:" ++ (decimal c.line ++ (codes "," ++ (decimal c.count ++ codes "\n")))

abbrev pub data_lines : List LineCount → List ℕ
data_lines [] = []
data_lines (c ∷ cs) = data_line c ++ data_lines cs

abbrev pub was_made : LineCount → Bool
was_made c = not (c.count == 0)

-- how many of the lines were reached, and how many there are
abbrev pub found_lines : List LineCount → List ℕ
found_lines cs =
    codes "LH:"
    ++ (decimal (count_by was_made cs) ++ (codes "\nLF:" ++ (decimal (length cs) ++ codes "\n")))

abbrev pub record_end : List LineCount → List ℕ
record_end cs = found_lines cs ++ codes "end_of_record\n"

-- a branch was reached
abbrev pub is_reached : BranchCount → Bool
is_reached c = not (c.is_true == 0) || not (c.is_false == 0)

-- a way of a branch, and how often it was gone
abbrev pub one_way : BranchCount → (number times : ℕ) → Way
one_way c number times = record { position = c.position; number = number; times = times; is_reached = is_reached c }

-- the two ways of a branch: what it goes by is not 0, or it is
abbrev pub ways_of : BranchCount → List Way
ways_of c = one_way c 0 c.is_true ∷ one_way c 1 c.is_false ∷ []

-- how often a way was gone; nothing is said where the branch was never reached
abbrev pub times_gone : (times : ℕ) → (is_reached : Bool) → List ℕ
times_gone times true = decimal times
times_gone times false = codes "-"

abbrev pub branch_position : CallPosition → List ℕ
branch_position p = codes "BRDA:" ++ (decimal p.line ++ (codes "," ++ (decimal p.column ++ codes ",")))

abbrev pub way_line : Way → List ℕ
way_line w =
    branch_position w.position ++ (decimal w.number ++ (codes "," ++ (times_gone w.times w.is_reached ++ codes "\n")))

abbrev pub was_gone : Way → Bool
was_gone w = not (w.times == 0)

-- how many ways there are, and how many were gone
abbrev pub found_ways : List Way → List ℕ
found_ways ws =
    codes "BRF:" ++ (decimal (length ws) ++ (codes "\nBRH:" ++ (decimal (count_by was_gone ws) ++ codes "\n")))

abbrev pub branch_lines : List Way → List ℕ
branch_lines ws = if length ws == 0 then [] else flat_map (λ w. way_line w) ws ++ found_ways ws

-- the tracefile of a text, which is in this file
abbrev pub tracefile : (file : List ℕ) → List LineCount → List BranchCount → List ℕ
tracefile file cs bs =
    codes "TN:\nSF:"
    ++ (file ++ (codes "\n" ++ (branch_lines (flat_map (λ c. ways_of c) bs) ++ (data_lines cs ++ record_end cs))))
