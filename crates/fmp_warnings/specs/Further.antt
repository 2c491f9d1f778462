-- What is told of two texts after their first fault: the faults of what is left of them where constructs with a fault
-- are left out.
use Rattle.std.specs.Prelude.{◌≡◌, ℕ, ◌==◌, ◌≤◌, if◌then◌else◌, List, [], ◌∷◌, ◌++◌, length, map, slice_range}
use Rattle.fmp_lex.specs.declared.fault.FaultKind.{FaultKind}
use Rattle.fmp_lex.specs.declared.fault.FaultKind.TheVariants as fault
use Rattle.fmp_lex.specs.declared.fault.TextFile.{TextFile}
use Rattle.fmp_lex.specs.declared.fault.TextFile.TheVariants as file
use Rattle.fmp_lex.specs.declared.fault.BuildFault.TheVariants as build
use Rattle.fmp_image.specs.Building.{IsBuildFault}
use Rattle.fmp_diagnosis.specs.declared.sentence.Texts.{Texts}
use Rattle.fmp_diagnosis.specs.declared.reports.FaultReport.{FaultReport}
use Rattle.fmp_diagnosis.specs.Reports.{IsFinding}
use Rattle.fmp_warnings.specs.declared.further.ToldFault.{ToldFault}
use Rattle.fmp_warnings.specs.declared.left.Left.{Left}
use Rattle.fmp_warnings.specs.declared.verdicts.TextsFault.{TextsFault}

-- a space in place of a byte; line feeds stay, so that all else keeps its place
abbrev pub blanked : ℕ → ℕ
blanked byte = if byte == 10 then 10 else 32

-- a text in which the bytes from one position up to another are left out
abbrev pub left_out : List ℕ → (from to : ℕ) → List ℕ
left_out text from to =
    slice_range text 0 from ++ map blanked (slice_range text from to) ++ slice_range text to (length text)

-- two texts, or what is left of them
pub record BothTexts : Type 0 where
  pub cfg : List ℕ
  pub src : List ℕ

abbrev pub one_of : BothTexts → TextFile → List ℕ
one_of t file.Configuration = t.cfg
one_of t file.Source = t.src

abbrev pub both : (cfg src : List ℕ) → BothTexts
both cfg src = record { cfg = cfg; src = src }

abbrev pub with_one : BothTexts → TextFile → List ℕ → BothTexts
with_one t file.Configuration text = both text t.src
with_one t file.Source text = both t.cfg text

abbrev pub both_of : Texts → BothTexts
both_of t = both t.cfg.now t.src.now

abbrev pub both_left : Left → BothTexts
both_left l = both l.cfg.items l.src.items

-- this is their first fault
abbrev pub IsFirst : BothTexts → TextsFault → Type 0
IsFirst t f = IsBuildFault t.cfg t.src (build.At f.file f.position f.kind)

-- what is left of two texts: in that with this fault a construct is left out that begins there or before
pub record IsLeft (t : BothTexts) (f : TextsFault) (left : BothTexts) : Type 0 where
  pub from : ℕ
  pub to : ℕ
  pub begins : from ≤ f.position.start
  pub is : left ≡ with_one t f.file (left_out (one_of t f.file) from to)

-- what is left of them after a fault, with its own first fault
abbrev pub IsNext : Left → Left → Type 0
IsNext l next = IsLeft (both_left l) l.fault (both_left next) × IsFirst (both_left next) next.fault

-- a fault may follow from what is left out: a name has no meaning, or another shape
abbrev pub MayFollow : FaultKind → Type 0
MayFollow fault.UnknownName = Unit {0}
MayFollow fault.Shape = Unit {0}
MayFollow _ = ⊥

-- a finding, but with another excerpt, in which it stands in the same column
pub record IsShownAs (f x : FaultReport) : Type 0 where
  pub column : x.excerpt.column ≡ f.excerpt.column
  pub line : x.line ≡ f.line
  pub end : x.end ≡ f.end
  pub code : x.code ≡ f.code
  pub refusal : x.refusal ≡ f.refusal
  pub sentence : x.sentence ≡ f.sentence

-- what is told of a fault of what is left: what is said of it there
pub record IsToldOf (left : BothTexts) (g : TextsFault) (x : ToldFault) : Type 0 where
  pub file : x.file ≡ g.file
  pub finding : FaultReport
  pub is_finding : IsFinding (one_of left g.file) g.position g.kind finding
  pub shown : IsShownAs finding x.finding

-- What is told of two texts after a fault of theirs: the first fault of what is left of them, and what is told after
-- that one. A fault that may follow is passed over, and there may be no more.
pub data AreFurther : BothTexts → TextsFault → List ToldFault → Type 0 where
  no_more : {t : BothTexts} {f : TextsFault} → AreFurther t f []
  told : {t : BothTexts} {f : TextsFault} {x : ToldFault} {more : List ToldFault} (left : BothTexts) (g : TextsFault)
      → IsLeft t f left → IsFirst left g → IsToldOf left g x → AreFurther left g more
      → AreFurther t f (x ∷ more)
  passed_over : {t : BothTexts} {f : TextsFault} {more : List ToldFault} (left : BothTexts) (g : TextsFault)
      → IsLeft t f left → IsFirst left g → MayFollow g.kind → AreFurther left g more → AreFurther t f more

-- a fault of what is left is told after others, or passed over
pub data IsAdded (left : BothTexts) (g : TextsFault) (old new : List ToldFault) : Type 0 where
  is_told : (x : ToldFault) → IsToldOf left g x → new ≡ old ++ x ∷ [] → IsAdded left g old new
  is_passed : MayFollow g.kind → new ≡ old → IsAdded left g old new

-- what is told after a fault of what is left, after these, is told after the fault of the texts
abbrev pub LeadsTo : (all : BothTexts) → TextsFault → BothTexts → TextsFault → List ToldFault → Type 0
LeadsTo all f left g before =
    (more : List ToldFault) → AreFurther left g more → AreFurther all f (before ++ more)
