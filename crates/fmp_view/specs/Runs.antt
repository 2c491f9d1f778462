-- The files of a run, and what holds of what they have.
use Rattle.std.specs.Prelude.{ℕ, List, Option}
use Rattle.fmp_base.specs.declared.events.Event.{Event}
use Rattle.fmp_base.specs.Systems.{SystemTables}
use Rattle.fmp_files.specs.Outside.{Files}
use Rattle.fmp_image_bytes.specs.Images.{ImageTables}
use Rattle.fmp_looking.specs.Looks.{OfImage, OfRecording, OfSteps, OfSystem}
use Rattle.fmp_outside.specs.declared.given.Given.{Given}
use Rattle.fmp_recording.specs.Recordings.{times_of}
use Rattle.fmp_searching.specs.Claimed.{IsFile}
use Rattle.fmp_view.specs.declared.asking.RunFiles.{RunFiles}
use Rattle.fmp_view.specs.declared.asking.RunFiles.TheVariants as run

-- the file of the system of a run, and that of what came to it
abbrev pub system_of : RunFiles → List ℕ
system_of (run.Steps image steps bound) = image.now
system_of (run.Recording cfg recording) = cfg.now

abbrev pub came_of : RunFiles → List ℕ
came_of (run.Steps image steps bound) = steps.now
came_of (run.Recording cfg recording) = recording.now

-- this holds of the image and of the events that files of these names have
pub record OfStepsFiles (files : Files) (image steps : List ℕ) (Holds : ImageTables → List Event → Type 0)
    : Type 0 where
  pub bytes : List ℕ
  pub is_image : IsFile files image bytes
  pub text : List ℕ
  pub is_steps : IsFile files steps text
  pub holds : OfImage bytes (λ i. OfSteps i text (λ es. Holds i es))

-- this holds of the system and of what is recorded, with when it came
pub record OfRecordingFiles (files : Files) (cfg recording : List ℕ)
    (Holds : SystemTables → List Given → List (Option ℕ) → Type 0) : Type 0 where
  pub text : List ℕ
  pub is_cfg : IsFile files cfg text
  pub recorded : List ℕ
  pub is_recording : IsFile files recording recorded
  pub holds : OfSystem text (λ sys. OfRecording sys recorded (λ gs. Holds sys gs (times_of recorded)))

-- one of these holds of a run: of an image with the bound of a stretch, or of a recording
abbrev pub OfRun : Files → RunFiles → (bound_holds : (bound : ℕ) → ImageTables → List Event → Type 0)
    → (recording_holds : SystemTables → List Given → List (Option ℕ) → Type 0) → Type 0
OfRun files (run.Steps image steps bound) P Q = OfStepsFiles files image.now steps.now (P bound)
OfRun files (run.Recording cfg recording) P Q = OfRecordingFiles files cfg.now recording.now Q
