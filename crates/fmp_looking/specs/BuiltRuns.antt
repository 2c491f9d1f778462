-- A run of the system that two texts build, and what is printed of it.
use Rattle.std.specs.Prelude.{ℕ, ◌≡◌, ◌^◌, List, [], ◌∷◌, Option, Some, None, Ok, true, false, min}
use denote.Ref.{Bor}
use Rattle.fmp_base.specs.declared.events.Event.{Event}
use Rattle.fmp_frames.specs.declared.call_positions.CallPosition.{CallPosition}
use Rattle.fmp_image.specs.Building.{Builds}
use Rattle.fmp_image_bytes.specs.Images.{ImageTables}
use Rattle.fmp_instructions.specs.Machine.{code_meaning}
use Rattle.fmp_kernel.specs.Comings.{reaction_of}
use Rattle.fmp_replay.specs.Replays.{kernel_after}
use Rattle.fmp_trace.specs.Steps.{steps_of}
use Rattle.fmp_looking.specs.declared.built.Running.{Running}
use Rattle.fmp_looking.specs.declared.built.Traced.{Traced}
use Rattle.fmp_looking.specs.declared.commands.DriveEnding.{DriveEnding}
use Rattle.fmp_looking.specs.declared.driving.Drive.{Drive}
use Rattle.fmp_looking.specs.declared.refused.NamedText.{NamedText}
use Rattle.fmp_looking.specs.Covered.{IsCoverage, IsLcov}
use Rattle.fmp_looking.specs.Drives.{DrivesImage, ending_of}
use Rattle.fmp_looking.specs.Traces.{AreShown, IsTrace}

-- an image is driven, until as many events are done as a run is to have at most: by these events, and so it ends
pub record IsDrive (i : ImageTables) (run : Running) (es : List Event) (ending : Option DriveEnding) : Type 0 where
  pub drive : Drive
  pub driven : DrivesImage i run.bound (min run.events (2 ^ 20)) run.seed drive
  pub events : es ≡ drive.driven.steps.items
  pub ends : ending ≡ Some (ending_of i drive)

-- what comes in a run: the events of a steps text, or those of a drive where there is none
abbrev pub AreComing : ImageTables → Running → (steps : Option (Bor (List ℕ))) → List Event → Option DriveEnding
    → Type 0
AreComing i run None es ending = IsDrive i run es ending
AreComing i run (Some text) es ending = (steps_of i.system.processors text.now ≡ Ok es) × (ending ≡ None)

-- the trace of a run, which says where its calls stand in the text of its bodies if that is shown
pub record IsRunTrace (i : ImageTables) (src : List ℕ) (run : Running) (es : List Event) (out : List ℕ) : Type 0 where
  pub positions : List (Option CallPosition)
  pub shown : AreShown run.form run.positions src i run.bound es positions
  pub trace :
      IsTrace run.form i.system positions code_meaning (reaction_of code_meaning) (kernel_after i run.bound []) es out

-- what is asked for is made of a run: its trace, unless the table of its calls is printed in its place, and its
-- coverage
pub record IsTraced (i : ImageTables) (source : NamedText) (run : Running) (es : List Event) (t : Traced)
    : Type 0 where
  pub text : run.calls ≡ false → IsRunTrace i source.text.now run es t.text.items
  pub tracefile :
      run.lcov ≡ true → IsLcov source.name.now source.text.now i run.bound (es ∷ []) t.tracefile.items
  pub coverage :
      run.coverage ≡ true → IsCoverage source.name.now source.text.now i run.bound (es ∷ []) t.coverage.items

-- the same of a run of an image, over steps if there are some
pub record IsRunOf (i : ImageTables) (source : NamedText) (steps : Option (Bor (List ℕ))) (run : Running) (t : Traced)
    : Type 0 where
  pub events : List Event
  pub coming : AreComing i run steps events t.ending
  pub traced : IsTraced i source run events t

-- the same of the image that two texts build
pub record IsRunOfTexts (cfg : List ℕ) (source : NamedText) (steps : Option (Bor (List ℕ))) (run : Running)
    (t : Traced) : Type 0 where
  pub image : ImageTables
  pub builds : Builds cfg source.text.now image
  pub run_of : IsRunOf image source steps run t
