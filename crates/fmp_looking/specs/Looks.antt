-- What a run that is looked at is: of an image over a steps text, or of the system of a configuration in a recording.
use Rattle.std.specs.Prelude.{◌≡◌, ◌≤◌, ◌++◌, ℕ, List, Option, Some, None, Ok, codes, decimal, length}
use Rattle.fmp_base.specs.declared.events.Event.{Event}
use Rattle.fmp_base.specs.Steps.{Reaction}
use Rattle.fmp_base.specs.Systems.{SystemTables}
use Rattle.fmp_expect.specs.declared.checker.BrokenExpectation.{BrokenExpectation}
use Rattle.fmp_expect.specs.Words.{line_at}
use Rattle.fmp_frames.specs.Watches.{LeadUp, after_first}
use Rattle.fmp_image_bytes.specs.Images.{ImageTables, image_at}
use Rattle.fmp_kernel.specs.KernelViews.{KernelView}
use Rattle.fmp_named.specs.Lines.{named_lines}
use Rattle.fmp_outside.specs.declared.given.Given.{Given}
use Rattle.fmp_recording.specs.Recordings.{recording_of}
use Rattle.fmp_trace.specs.Steps.{steps_of}
use Rattle.fmp_looking.specs.OpenSystems.{IsOf}

-- this holds of the image that the bytes spell
pub record OfImage (bytes : List ℕ) (Holds : ImageTables → Type 0) : Type 0 where
  pub image : ImageTables
  pub spelled : image_at bytes ≡ Ok image
  pub holds : Holds image

-- this holds of the events of a steps text for an image
pub record OfSteps (i : ImageTables) (text : List ℕ) (Holds : List Event → Type 0) : Type 0 where
  pub events : List Event
  pub read : steps_of i.system.processors text ≡ Ok events
  pub holds : Holds events

-- this holds of the system that a configuration describes
pub record OfSystem (cfg : List ℕ) (Holds : SystemTables → Type 0) : Type 0 where
  pub system : SystemTables
  pub described : IsOf cfg system
  pub holds : Holds system

-- this holds of what a recording of a system says
pub record OfRecording (sys : SystemTables) (text : List ℕ) (Holds : List Given → Type 0) : Type 0 where
  pub given : List Given
  pub read : recording_of sys.processors text ≡ Ok given
  pub holds : Holds given

-- this many of what comes to a kernel lead up to the event of a number, and it is done then; all of it, where no number
-- is given
abbrev pub IsUpTo : {B C X : Type 0} → (KernelView B C → X → Reaction C) → KernelView B C → List X → Option ℕ
    → (count : ℕ) → Type 0
IsUpTo reaction k xs None count = count ≡ length xs
IsUpTo reaction k xs (Some number) count =
    LeadUp reaction k xs number count × (number ≤ (after_first reaction k xs count).done)

-- the lines of the event of a number, or of the last event where there are fewer, as they are printed
pub record IsEventText {B C X : Type 0} (reaction : KernelView B C → X → Reaction C) (k : KernelView B C) (xs : List X)
    (number : ℕ) (out : List ℕ) : Type 0 where
  pub count : ℕ
  pub leads : LeadUp reaction k xs number count
  pub text : out ≡ named_lines k.system number (after_first reaction k xs count).lines

-- what is said of an expectation that fails, in a file of this name that has this text: its line and the event
abbrev pub broken_head : (name text : List ℕ) → BrokenExpectation → List ℕ
broken_head name text b =
    name
    ++ (codes ":"
    ++ (decimal b.line
    ++ (codes ": event " ++ (decimal b.event ++ (codes ": " ++ (line_at text b.line ++ codes "\n"))))))

-- the same, and then the lines of that event
pub record ShowsBroken {B C X : Type 0} (reaction : KernelView B C → X → Reaction C) (k : KernelView B C) (xs : List X)
    (name text : List ℕ) (b : BrokenExpectation) (out : List ℕ) : Type 0 where
  pub event : List ℕ
  pub shown : IsEventText reaction k xs b.event event
  pub whole : out ≡ broken_head name text b ++ event
