-- The dump of a run, as a value change dump.
use Rattle.std.specs.Prelude.{◌≡◌, ◌+◌, ◌-◌, ◌^◌, ◌<◌, ℕ, List, [], ◌∷◌, ◌++◌, length, min}
use Rattle.fmp_base.specs.Systems.{SystemTables}
use Rattle.fmp_frames.specs.declared.dump.Waves.{Waves}
use Rattle.fmp_frames.specs.declared.variable.Variable.{Variable}
use Rattle.fmp_frames.specs.Declarations.{variables_of}
use Rattle.fmp_frames.specs.Dumps.{event_text, first_text, head_text, time_text}
use Rattle.fmp_frames.specs.Frames.{FrameTable}
use Rattle.fmp_frames.specs.Showing.{HasShown}
use Rattle.fmp_frames.specs.Values.{values_of}

-- the number of an event after one of this number; 2^32 - 1 is the greatest
abbrev pub number_after : ℕ → ℕ
number_after n = min (n + 1) (2 ^ 32 - 1)

-- the head of the dump of a system, and all values in the frame of setup
abbrev pub beginning : SystemTables → (setup : FrameTable) → List ℕ
beginning sys setup = head_text sys ++ first_text (variables_of sys) (values_of setup (variables_of sys))

-- a dump has begun
pub record IsBegun (sys : SystemTables) (setup : FrameTable) (waves : Waves) : Type 0 where
  pub variables : waves.variables.items ≡ variables_of sys
  pub values : waves.values.items ≡ values_of setup (variables_of sys)
  pub events : waves.events ≡ 0
  pub text : waves.text.items ≡ beginning sys setup

-- a frame was added to a dump: the number of its event, and the values that are not as they were before
pub record IsDumped (old : Waves) (f : FrameTable) (new : Waves) : Type 0 where
  pub variables : new.variables ≡ old.variables
  pub values : new.values.items ≡ values_of f old.variables.items
  pub events : new.events ≡ number_after old.events
  pub text : new.text.items
      ≡ old.text.items
      ++ event_text (number_after old.events) old.variables.items old.values.items (values_of f old.variables.items)

-- what events change, after one of this number, and the time after the last of them
abbrev pub events_text : (number : ℕ) → List Variable → (before : List ℕ) → List FrameTable → List ℕ
events_text number vs before [] = time_text (number + 1)
events_text number vs before (f ∷ fs) =
    event_text (number + 1) vs before (values_of f vs) ++ events_text (number + 1) vs (values_of f vs) fs

-- the dump of a run of a system whose frames these are: its head, all values after setup, and at the number of each
-- event the values that it changed
abbrev pub dump_text : SystemTables → (setup : FrameTable) → List FrameTable → List ℕ
dump_text sys setup fs =
    beginning sys setup ++ events_text 0 (variables_of sys) (values_of setup (variables_of sys)) fs

-- a dump that has begun and was shown the frames of a run ends as the dump of this run
abbrev pub DumpsAreOfTheirFrames : Type 0
DumpsAreOfTheirFrames =
    (sys : SystemTables) (setup : FrameTable) (fs : List FrameTable) (first last : Waves) → length fs < 2 ^ 32 - 1
    → IsBegun sys setup first → HasShown IsDumped first fs last
    → last.text.items ++ time_text (number_after last.events) ≡ dump_text sys setup fs
