-- What is shown of the texts of a system, and of the steps of a run of it.
use Rattle.std.specs.Prelude.{◌≡◌, ℕ, List, ◌++◌, Option, Some, None, Ok, Err, flat_map}
use Rattle.std.specs.List.{All}
use Rattle.fmp_base.specs.declared.events.Event.{Event}
use Rattle.fmp_lex.specs.declared.fault.BuildFault.TheVariants as build
use Rattle.fmp_lex.specs.declared.fault.TextFile.{TextFile}
use Rattle.fmp_lex.specs.declared.fault.TextFile.TheVariants as file
use Rattle.fmp_image_bytes.specs.Images.{ImageTables}
use Rattle.fmp_image.specs.Building.{Builds, IsBuildFault}
use Rattle.fmp_trace.specs.declared.faults.StepsFault.{StepsFault}
use Rattle.fmp_trace.specs.declared.faults.StepsFault.TheVariants as fault
use Rattle.fmp_trace.specs.Steps.{steps_of}
use Rattle.fmp_warnings.specs.declared.found.Warning.{Warning}
use Rattle.fmp_warnings.specs.declared.further.ToldFault.{ToldFault}
use Rattle.fmp_diagnosis.specs.declared.reports.FaultReport.{FaultReport}
use Rattle.fmp_diagnosis.specs.declared.sentence.Texts.{Texts}
use Rattle.fmp_diagnosis.specs.declared.steps.StepFlaw.{StepFlaw}
use Rattle.fmp_diagnosis.specs.declared.steps.StepFlaw.TheVariants as flaw
use Rattle.fmp_diagnosis.specs.Records.{record_text}
use Rattle.fmp_diagnosis.specs.Reports.{IsFinding, report, text_of}
use Rattle.fmp_diagnosis.specs.StepFindings.{IsStepFinding, IsStepWarning}
use Rattle.fmp_warnings.specs.declared.verdicts.FileNames.{FileNames}
use Rattle.fmp_warnings.specs.declared.verdicts.Form.{Form}
use Rattle.fmp_warnings.specs.declared.verdicts.Form.TheVariants as form
use Rattle.fmp_warnings.specs.declared.verdicts.TextsVerdict.{TextsVerdict}
use Rattle.fmp_warnings.specs.declared.verdicts.TextsVerdict.TheVariants as found
use Rattle.fmp_warnings.specs.declared.verdicts.Shown.{Shown}
use Rattle.fmp_warnings.specs.declared.verdicts.Shown.TheVariants as shown
use Rattle.fmp_warnings.specs.declared.verdicts.StepFault.{StepFault}
use Rattle.fmp_warnings.specs.Further.{AreFurther, both_of}
use Rattle.fmp_warnings.specs.Warnings.{AreWarningsOf}

-- this is the first fault of two texts; or they build the image of a system with this number of processors
abbrev pub IsFound : (cfg src : List ℕ) → TextsVerdict → Type 0
IsFound cfg src (found.Faulty f) = IsBuildFault cfg src (build.At f.file f.position f.kind)
IsFound cfg src (found.Sound processors) =
    (i : ImageTables) × Builds cfg src i × (processors ≡ i.system.processors)

-- a flaw of a line, as the reader of steps tells it
abbrev pub told : ℕ → StepFlaw → StepsFault
told line flaw.Form = fault.Line line
told line (flaw.Range processors) = fault.Range line
told line flaw.TooMany = fault.TooMany line

-- this is the first fault of a steps text for this number of processors; or it has none
abbrev pub HasStepFault : (processors : ℕ) → List ℕ → Option StepFault → Type 0
HasStepFault processors text (Some f) = steps_of processors text ≡ Err (told f.line f.flaw)
HasStepFault processors text None = (es : List Event) × (steps_of processors text ≡ Ok es)

-- the name of a file
abbrev pub name_of : FileNames → TextFile → List ℕ
name_of names file.Configuration = names.cfg.now
name_of names file.Source = names.src.now

-- a finding in the text of a file of this name, as it is printed
abbrev pub printed : Form → (name : List ℕ) → FaultReport → List ℕ
printed form.Text name f = report name f
printed form.Json name f = record_text name f

-- warnings, as they are printed
abbrev pub warnings_text : Form → FileNames → List Warning → List ℕ
warnings_text form names = flat_map (λ w. printed form (name_of names w.file) w.finding)

-- faults, as they are printed
abbrev pub faults_text : Form → FileNames → List ToldFault → List ℕ
faults_text form names = flat_map (λ f. printed form (name_of names f.file) f.finding)

-- the first fault of a steps text is reported, under the name of its file
abbrev pub IsStepShown : Form → FileNames → (processors : ℕ) → (text : List ℕ) → (out : List ℕ) → Type 0
IsStepShown form names processors text out =
    (s : StepFault) × (f : FaultReport)
    × HasStepFault processors text (Some s)
    × IsStepFinding text s.line s.flaw f
    × (out ≡ printed form names.steps.now f)

-- what is said of a line of the steps that does nothing
abbrev pub IsIdleStep : (steps : List ℕ) → FaultReport → Type 0
IsIdleStep steps f = (line : ℕ) × IsStepWarning steps line f

-- the warnings of two texts, and then of the steps, as they are printed
abbrev pub AreWarnings : Form → FileNames → Texts → (steps out : List ℕ) → Type 0
AreWarnings form names t steps out =
    (ws : List Warning)
    × (idle : List FaultReport)
    × AreWarningsOf t ws
    × All (IsIdleStep steps) idle
    × (out ≡ warnings_text form names ws ++ flat_map (printed form names.steps.now) idle)

-- Of two texts with a fault their first one is reported, under the name of its file, and then what is told of them
-- after it; of others the first fault of the steps, and if they have none, warnings.
abbrev pub IsShownOf : Form → FileNames → Texts → (steps : List ℕ) → TextsVerdict → Shown → Type 0
IsShownOf form names t steps (found.Faulty f) (shown.Faulty out) =
    (x : FaultReport)
    × (more : List ToldFault)
    × IsFinding (text_of t f.file) f.position f.kind x
    × AreFurther (both_of t) f more
    × (out.items ≡ printed form (name_of names f.file) x ++ faults_text form names more)
IsShownOf form names t steps (found.Faulty f) (shown.Sound out) = ⊥
IsShownOf form names t steps (found.Sound processors) (shown.Faulty out) =
    IsStepShown form names processors steps out.items
IsShownOf form names t steps (found.Sound processors) (shown.Sound out) =
    HasStepFault processors steps None × AreWarnings form names t steps out.items

-- what is shown of two texts and of steps
pub record IsShown (form : Form) (names : FileNames) (t : Texts) (steps : List ℕ) (s : Shown) : Type 0 where
  pub found : TextsVerdict
  pub is : IsFound t.cfg.now t.src.now found
  pub shows : IsShownOf form names t steps found s

-- the program's status if all of it is printed: 1 where there is a fault, as when the texts are checked
abbrev pub status : Shown → ℕ
status (shown.Faulty _) = 1
status (shown.Sound _) = 0
