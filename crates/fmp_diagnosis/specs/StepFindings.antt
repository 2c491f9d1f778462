-- What is said of lines of a steps text.
use Rattle.std.specs.Prelude.{◌≡◌, ℕ, ◌+◌, ◌<◌, ◌≤◌, ◌==◌, List, [], length, max, codes, take}
use Rattle.std.specs.List.{count_by}
use Rattle.fmp_diagnosis.specs.declared.reports.FaultReport.{FaultReport}
use Rattle.fmp_diagnosis.specs.declared.steps.StepFlaw.{StepFlaw}
use Rattle.fmp_diagnosis.specs.declared.steps.StepFlaw.TheVariants as flaw
use Rattle.fmp_diagnosis.specs.Excerpts.{IsExcerpt}
use Rattle.fmp_diagnosis.specs.Reports.{column_after}

-- the code of a flaw
abbrev pub code : StepFlaw → List ℕ
code flaw.Form = codes "S1"
code (flaw.Range processors) = codes "S2"
code flaw.TooMany = codes "S3"

-- the number of the line that a position stands in: one more than there are line feeds before it
abbrev pub line_at : List ℕ → ℕ → ℕ
line_at text at = 1 + count_by (λ b. b == 10) (take at text)

-- a position stands in the line of this number, from 1; or at the end of a text that has no such line
pub record IsInLine (number : ℕ) (text : List ℕ) (at : ℕ) : Type 0 where
  pub within : at ≤ length text
  pub line : line_at text at ≤ max number 1
  pub end : line_at text at < max number 1 → at ≡ length text

-- What is said of a line of a steps text: a position in this line, this code, and some sentence.
pub record IsSaidOfLine (text : List ℕ) (number : ℕ) (code : List ℕ) (f : FaultReport) : Type 0 where
  pub at : ℕ
  pub after : ℕ
  pub stands : IsInLine number text at
  pub line : f.line ≡ number
  pub shows : IsExcerpt text at after f.excerpt
  pub end : f.end ≡ column_after f.excerpt.column at after
  pub code_is : f.code.now ≡ code
  pub refusal : f.refusal.now ≡ []
  pub said : 0 < length f.sentence.items

-- what is said of a line that has this flaw
abbrev pub IsStepFinding : (text : List ℕ) → (number : ℕ) → StepFlaw → FaultReport → Type 0
IsStepFinding text number flaw f = IsSaidOfLine text number (code flaw) f

-- what is said of a line that does nothing, whatever happens before it
abbrev pub IsStepWarning : (text : List ℕ) → (number : ℕ) → FaultReport → Type 0
IsStepWarning text number f = IsSaidOfLine text number (codes "warning") f
