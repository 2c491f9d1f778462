-- What `expect` comes to: whether a run fails the text of a file, its report, and what is printed of it.
use Rattle.std.specs.Prelude.{ℕ, ◌≡◌, ◌≢◌, Bool, true, false, IfSome, List, [], Option, Some, None, is_some, option_map}
use denote.Ref.{Bor}
use Rattle.fmp_base.specs.declared.events.Event.{Event}
use Rattle.fmp_files.specs.Deeds.{Deed, Does}
use Rattle.fmp_files.specs.Outside.{Files}
use Rattle.fmp_files.specs.Prints.{Prints}
use Rattle.fmp_foreign.specs.Hosting.{reaction}
use Rattle.fmp_image_bytes.specs.Images.{ImageTables}
use Rattle.fmp_instructions.specs.Machine.{code_meaning}
use Rattle.fmp_kernel.specs.Comings.{reaction_of}
use Rattle.fmp_looking.specs.declared.expecting.Expectations.{Expectations}
use Rattle.fmp_looking.specs.declared.judged.Judged.{Judged}
use Rattle.fmp_looking.specs.declared.judging.JudgementForm.{JudgementForm}
use Rattle.fmp_looking.specs.declared.judging.JudgementForm.TheVariants as told_in
use Rattle.fmp_looking.specs.declared.source_expecting.SourceExpectations.{SourceExpectations}
use Rattle.fmp_looking.specs.Expects.{IsJudgedBy}
use Rattle.fmp_looking.specs.FilesWritten.{file_written}
use Rattle.fmp_looking.specs.Judgements.{AreJudgements}
use Rattle.fmp_looking.specs.SourceVerdicts.{AreSourceJudgements, IsSourceVerdict}
use Rattle.fmp_recording.specs.Replaying.{new_kernel}
use Rattle.fmp_replay.specs.Replays.{kernel_after}
use Rattle.fmp_searching.specs.Claimed.{IsFile}
use Rattle.fmp_warnings.specs.declared.verdicts.Form.{Form}
use Rattle.fmp_warnings.specs.declared.verdicts.Form.TheVariants as form
use Rattle.fmp_view.specs.declared.asking.Expecting.{Expecting}
use Rattle.fmp_view.specs.declared.asking.RunFiles.{RunFiles}
use Rattle.fmp_view.specs.declared.asking.RunFiles.TheVariants as run
use Rattle.fmp_view.specs.Runs.{OfRecordingFiles, OfStepsFiles, came_of, system_of}

-- this holds of the run over the steps of a file, and of these expectations with the text of the bodies in a file
pub record OfSourceFiles (files : Files) (image steps src : List ℕ) (x : Expectations)
    (Holds : ImageTables → List Event → SourceExpectations → Type 0) : Type 0 where
  pub sourced : SourceExpectations
  pub expectations : sourced.expectations ≡ x
  pub is_src : IsFile files src sourced.src.now
  pub holds : OfStepsFiles files image steps (λ i es. Holds i es sourced)

-- whether a run fails expectations, where the file of the text of its bodies is given or not
abbrev pub IsRunJudged : Files → RunFiles → (src : Option (Bor (List ℕ))) → Expectations → (fails : Bool) → Type 0
IsRunJudged files (run.Steps image steps bound) (Some src) x fails =
    OfSourceFiles files image.now steps.now src.now x (λ i es sourced. IsSourceVerdict i bound es sourced fails)
IsRunJudged files (run.Steps image steps bound) None x fails =
    OfStepsFiles files image.now steps.now
    (λ i es. IsJudgedBy x.text.now x.strict (reaction_of code_meaning) (kernel_after i bound []) es fails)
IsRunJudged files (run.Recording cfg recording) src x fails =
    OfRecordingFiles files cfg.now recording.now
    (λ sys gs times. IsJudgedBy x.text.now x.strict reaction (new_kernel sys) gs fails)

-- how it does by each of them alone, told in a form
abbrev pub IsRunTold : Files → RunFiles → (src : Option (Bor (List ℕ))) → Judged → (out : List ℕ) → Type 0
IsRunTold files (run.Steps image steps bound) (Some src) j out =
    OfSourceFiles files image.now steps.now src.now j.expectations
    (λ i es sourced. AreSourceJudgements i bound es sourced j.form out)
IsRunTold files (run.Steps image steps bound) None j out =
    OfStepsFiles files image.now steps.now
    (λ i es. AreJudgements j (reaction_of code_meaning) (kernel_after i bound []) es out)
IsRunTold files (run.Recording cfg recording) src j out =
    OfRecordingFiles files cfg.now recording.now (λ sys gs times. AreJudgements j reaction (new_kernel sys) gs out)

-- expectations are those of the file that is named
pub record AreNamed (files : Files) (e : Expecting) (x : Expectations) : Type 0 where
  pub name : x.name.now ≡ e.name.now
  pub strict : x.strict ≡ e.strict
  pub is_text : IsFile files e.name.now x.text.now

-- whether a run fails them
pub record IsJudged (files : Files) (r : RunFiles) (e : Expecting) (fails : Bool) : Type 0 where
  pub expectations : Expectations
  pub are : AreNamed files e expectations
  pub judged : IsRunJudged files r e.src expectations fails

-- how it does by each of them alone, told in a form
pub record IsTold (files : Files) (r : RunFiles) (e : Expecting) (f : JudgementForm) (out : List ℕ) : Type 0 where
  pub judged : Judged
  pub form : judged.form ≡ f
  pub are : AreNamed files e judged.expectations
  pub told : IsRunTold files r e.src judged out

-- a report is written to none of the files that are read
pub record IsReportApart (r : RunFiles) (e : Expecting) (out : List ℕ) : Type 0 where
  pub system : out ≢ system_of r
  pub came : out ≢ came_of r
  pub expectations : out ≢ e.name.now
  pub src : IfSome e.src (λ src. out ≢ src.now)

-- the report of a run was written, where one is asked for
pub record WritesReport (files : Files) (r : RunFiles) (e : Expecting) (before after : Option (List Deed)) : Type 0
  where
    pub report : List ℕ
    pub is : IfSome e.junit (λ _. IsTold files r e told_in.Junit report)
    pub done : Does before (file_written (option_map (λ name. name.now) e.junit) report) after

-- what is shown of a run: as objects of JSON how it does by each expectation, and for readers something if it fails
abbrev pub IsShown : Form → Files → RunFiles → Expecting → (fails : Bool) → (text : Option (List ℕ)) → Type 0
IsShown form.Json files r e fails None = ⊥
IsShown form.Json files r e fails (Some text) = IsTold files r e told_in.Records text
IsShown form.Text files r e fails text = is_some text ≡ fails

-- a text was printed, if there is one
abbrev pub PrintsSome : (text : Option (List ℕ)) → (before after : Option (List Deed)) → Type 0
PrintsSome None before after = Does before [] after
PrintsSome (Some text) before after = Prints before text after

-- the status that says whether a run fails
abbrev pub judged_status : (fails : Bool) → ℕ
judged_status true = 4
judged_status false = 0

-- the report of a run was written, and then a text was printed; the status says whether the run fails
pub record TellsJudged (files : Files) (r : RunFiles) (e : Expecting) (fails : Bool) (text : Option (List ℕ))
    (before after : Option (List Deed)) (status : ℕ) : Type 0 where
  pub reported : Option (List Deed)
  pub reports : WritesReport files r e before reported
  pub prints : PrintsSome text reported after
  pub verdict : status ≡ judged_status fails

-- the same of what is shown of it
pub record ShowsJudged (files : Files) (r : RunFiles) (e : Expecting) (fails : Bool)
    (before after : Option (List Deed)) (status : ℕ) : Type 0 where
  pub text : Option (List ℕ)
  pub shown : IsShown e.form files r e fails text
  pub tells : TellsJudged files r e fails text before after status

-- a run was judged
pub record EndsExpect (files : Files) (r : RunFiles) (e : Expecting) (before after : Option (List Deed)) (status : ℕ)
    : Type 0 where
  pub apart : IfSome e.junit (λ out. IsReportApart r e out.now)
  pub fails : Bool
  pub is : IsJudged files r e fails
  pub shows : ShowsJudged files r e fails before after status
