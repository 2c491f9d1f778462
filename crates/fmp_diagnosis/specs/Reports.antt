-- What is said of a fault of a text.
use Rattle.std.specs.Prelude.{◌≡◌, ℕ, ◌+◌, ◌-◌, ◌<◌, Bool, if◌then◌else◌, List, [], ◌∷◌, ◌++◌, length, max, min}
use Rattle.std.specs.Prelude.{codes, decimal, nat_eq}
use Rattle.std.specs.List.{starts_with}
use Rattle.fmp_base.specs.Codes.{code_name}
use Rattle.fmp_lex.specs.declared.fault.FaultKind.{FaultKind}
use Rattle.fmp_lex.specs.declared.fault.FaultKind.TheVariants as fault
use Rattle.fmp_lex.specs.declared.fault.TextFile.{TextFile}
use Rattle.fmp_lex.specs.declared.fault.TextFile.TheVariants as file
use Rattle.fmp_lex.specs.declared.position.TokenPosition.{TokenPosition}
use Rattle.fmp_diagnosis.specs.declared.excerpt.Excerpt.{Excerpt}
use Rattle.fmp_diagnosis.specs.declared.reports.FaultReport.{FaultReport}
use Rattle.fmp_diagnosis.specs.declared.sentence.Texts.{Texts}
use Rattle.fmp_diagnosis.specs.Culprits.{IsCulprit}
use Rattle.fmp_diagnosis.specs.Excerpts.{IsExcerpt}

-- the text of a file
abbrev pub text_of : Texts → TextFile → List ℕ
text_of t file.Configuration = t.cfg.now
text_of t file.Source = t.src.now

-- the code of a kind of fault, and after B4 that with which the static API refuses
abbrev pub code : FaultKind → List ℕ
code fault.Syntax = codes "B1"
code fault.TwiceNamed = codes "B2"
code fault.UnknownName = codes "B3"
code (fault.Api er) = codes "B4 "
code fault.Limit = codes "B5"
code fault.StackTooSmall = codes "B6"
code fault.WrongEntryKind = codes "B7"
code fault.Shape = codes "B9"

abbrev pub refusal : FaultKind → List ℕ
refusal (fault.Api er) = code_name er
refusal _ = []

-- NAME:LINE:COLUMN: CODE:
abbrev pub numbers : ℕ → ℕ → List ℕ
numbers line column = codes ":" ++ decimal line ++ codes ":" ++ decimal column ++ codes ": "

abbrev pub code_words : (code refusal : List ℕ) → List ℕ
code_words code refusal = code ++ refusal ++ codes ": "

abbrev pub head : (name : List ℕ) → FaultReport → List ℕ
head name f = name ++ numbers f.line f.excerpt.column ++ code_words f.code.now f.refusal.now

-- the first line of an image, which is no text, as it is shown: FMPI, and the picture of a control byte
abbrev pub is_of_image : List ℕ → Bool
is_of_image line = starts_with nat_eq line (codes "FMPI" ++ 226 ∷ 144 ∷ [])

-- the line and its marks; of an image nothing is shown
abbrev pub lines : Excerpt → List ℕ
lines e =
    if is_of_image e.line.items then codes "\n"
    else codes "\n    " ++ e.line.items ++ codes "\n    " ++ e.marks.items ++ codes "\n"

-- a finding of the text of a file of this name as it is printed: its head, its sentence, and the line that it stands in
abbrev pub report : (name : List ℕ) → FaultReport → List ℕ
report name f = head name f ++ f.sentence.items ++ lines f.excerpt

-- the column after a token that begins at this column, from `at` up to `end`: at least one column is marked
abbrev pub column_after : (column at end : ℕ) → ℕ
column_after column at end = column + max (end - at) 1

-- What is said of a fault of a text: where it is shown, its code, and some sentence.
pub record IsFinding (text : List ℕ) (position : TokenPosition) (kind : FaultKind) (f : FaultReport) : Type 0 where
  pub culprit : TokenPosition
  pub is_culprit : IsCulprit text position kind culprit
  pub line : f.line ≡ culprit.line
  pub shows : IsExcerpt text (min culprit.start (length text)) culprit.end f.excerpt
  pub end : f.end ≡ column_after f.excerpt.column (min culprit.start (length text)) culprit.end
  pub code : f.code.now ≡ code kind
  pub refusal : f.refusal.now ≡ refusal kind
  pub said : 0 < length f.sentence.items

-- What is said of what is legal at a position of a text, but usually a mistake.
pub record IsWarning (text : List ℕ) (position : TokenPosition) (sentence : List ℕ) (f : FaultReport) : Type 0 where
  pub line : f.line ≡ position.line
  pub shows : IsExcerpt text (min position.start (length text)) position.end f.excerpt
  pub end : f.end ≡ column_after f.excerpt.column (min position.start (length text)) position.end
  pub code : f.code.now ≡ codes "warning"
  pub refusal : f.refusal.now ≡ []
  pub sentence_is : f.sentence.items ≡ sentence
