-- How often the calls of a text were made and what they were answered, and which ways its branches went.
use Rattle.std.specs.Prelude.{ℕ, ◌==◌, ◌-◌, Bool, true, false, ◌&&◌, if◌then◌else◌, List, [], ◌∷◌, ◌++◌}
use Rattle.std.specs.Prelude.{Option, Some, None, codes, count_by, decimal, length}
use Rattle.std.specs.List.{flat_map}
use Rattle.fmp_base.specs.declared.codes.Er.{Er}
use Rattle.fmp_base.specs.Codes.{code_name, code_of}
use Rattle.fmp_base.specs.Services.{service_name}
use Rattle.fmp_frames.specs.Answers.{answer_codes, is_same_code}
use Rattle.fmp_frames.specs.declared.call_positions.CallPosition.{CallPosition}
use Rattle.fmp_looking.specs.declared.marks.BranchKind.{BranchKind}
use Rattle.fmp_looking.specs.declared.marks.BranchKind.TheVariants as branch
use Rattle.fmp_looking.specs.declared.marks.Mark.{Mark}
use Rattle.fmp_looking.specs.declared.marks.MarkKind.{MarkKind}
use Rattle.fmp_looking.specs.declared.marks.MarkKind.TheVariants as mark
use Rattle.fmp_looking.specs.declared.observing.CallSeen.{CallSeen}
use Rattle.fmp_looking.specs.declared.observing.Outcome.{Outcome}
use Rattle.fmp_looking.specs.declared.observing.Outcome.TheVariants as outcome
use Rattle.fmp_looking.specs.declared.tables.BranchCount.{BranchCount}
use Rattle.fmp_looking.specs.Ways.{TimesGone}

-- this is seen of a call at this position
abbrev pub is_at : CallPosition → CallPosition → Bool
is_at p q = (q.line == p.line) && (q.column == p.column)

abbrev pub is_made : Outcome → Bool
is_made outcome.Made = true
is_made (outcome.Answered c) = false

abbrev pub is_answer : Er → Outcome → Bool
is_answer c outcome.Made = false
is_answer c (outcome.Answered d) = is_same_code d c

-- this says that the call at a position was made, or answered a code
abbrev pub says_made : CallPosition → CallSeen → Bool
says_made p s = is_at p s.position && is_made s.outcome

abbrev pub says_answered : CallPosition → Er → CallSeen → Bool
says_answered p c s = is_at p s.position && is_answer c s.outcome

-- how often it was
abbrev pub times_made : List CallSeen → CallPosition → ℕ
times_made calls p = count_by (says_made p) calls

abbrev pub times_answered : List CallSeen → CallPosition → Er → ℕ
times_answered calls p c = count_by (says_answered p c) calls

-- how often the branch of a mark went a way: bodies are counted from 0
abbrev pub times_gone : TimesGone → Mark → (way : Bool) → ℕ
times_gone gone m way = if m.bodies == 0 then 0 else gone (m.bodies - 1) m.branches way

-- a number of times that something was so
abbrev pub times : (word : List ℕ) → ℕ → List ℕ
times word n = if n == 0 then codes "never " ++ word else word ++ (codes " " ++ decimal n)

abbrev pub answer_times : Er → ℕ → List ℕ
answer_times c n = if n == 0 then [] else codes ", " ++ (code_name c ++ (codes " " ++ decimal n))

abbrev pub branch_word : BranchKind → List ℕ
branch_word branch.If = codes "if"
branch_word branch.While = codes "while"
branch_word branch.And = codes "&&"
branch_word branch.Or = codes "||"

-- a position in a file
abbrev pub position_text : (file : List ℕ) → CallPosition → List ℕ
position_text file p = file ++ (codes ":" ++ (decimal p.line ++ (codes ":" ++ decimal p.column)))

-- where a mark stands in a file, with the word that stands there
abbrev pub mark_text : (file : List ℕ) → Mark → (word : List ℕ) → List ℕ
mark_text file m word = position_text file m.position ++ (codes ": " ++ (word ++ codes ": "))

-- what is seen of a mark
abbrev pub seen_text : List CallSeen → TimesGone → Mark → MarkKind → List ℕ
seen_text calls gone m (mark.Call s) =
    times (codes "made") (times_made calls m.position)
    ++ flat_map (λ c. answer_times c (times_answered calls m.position c)) answer_codes
seen_text calls gone m (mark.Branch k) =
    times (codes "true") (times_gone gone m true)
    ++ (codes ", " ++ times (codes "false") (times_gone gone m false))

abbrev pub kind_word : MarkKind → List ℕ
kind_word (mark.Call s) = service_name s
kind_word (mark.Branch k) = branch_word k

-- a line of the table
abbrev pub row_text : (file : List ℕ) → List CallSeen → TimesGone → Mark → List ℕ
row_text file calls gone m =
    mark_text file m (kind_word m.kind) ++ (seen_text calls gone m m.kind ++ codes "\n")

-- the table of a text in a file, with these marks
abbrev pub table_text : (file : List ℕ) → List CallSeen → TimesGone → List Mark → List ℕ
table_text file calls gone marks = flat_map (λ m. row_text file calls gone m) marks

-- how often a branch went each way
abbrev pub branch_count : TimesGone → Mark → BranchCount
branch_count gone m =
    record { position = m.position; is_true = times_gone gone m true; is_false = times_gone gone m false }

abbrev pub counted : TimesGone → Mark → MarkKind → List BranchCount
counted gone m (mark.Call s) = []
counted gone m (mark.Branch k) = branch_count gone m ∷ []

-- the same of each branch among marks
abbrev pub branch_counts : TimesGone → List Mark → List BranchCount
branch_counts gone marks = flat_map (λ m. counted gone m m.kind) marks
