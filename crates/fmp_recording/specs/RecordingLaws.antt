-- Laws of recordings.
use Rattle.std.specs.Prelude.{ℕ, ℤ, pos, negsuc, ◌≡◌, ◌≤◌, ◌<◌, ◌^◌, List, Option, None, Some, Ok, length}
use Rattle.std.specs.List.{AllByRecursion}
use Rattle.fmp_base.specs.Services.{arguments_of}
use Rattle.fmp_outside.specs.declared.given.Act.{Act}
use Rattle.fmp_outside.specs.declared.given.Act.TheVariants as act
use Rattle.fmp_outside.specs.declared.given.Given.{Given}
use Rattle.fmp_outside.specs.declared.given.Given.TheVariants as given
use Rattle.fmp_recording.specs.declared.recorded.RecordedLine.{RecordedLine}
use Rattle.fmp_recording.specs.declared.recorded.RecordedLine.TheVariants as recorded
use Rattle.fmp_recording.specs.Recordings.{recorded_lines_text, recorded_of, recording_of, recording_text, timed_text}
use Rattle.fmp_recording.specs.Recordings.{times_of}

-- a number of 32 bits
abbrev pub IsWord : ℤ → Type 0
IsWord (pos n) = n < 2 ^ 31
IsWord (negsuc n) = n < 2 ^ 31

abbrev pub IsWritable : Act → Type 0
IsWritable (act.Call c) = AllByRecursion IsWord (arguments_of c)
IsWritable act.End = Unit {0}
IsWritable (act.Fault f) = Unit {0}

-- what a recording of a system with this number of processors can hold
abbrev pub IsRecorded : (processors : ℕ) → Given → Type 0
IsRecorded processors (given.Act p a) = (1 ≤ p) × (p ≤ processors) × IsWritable a
IsRecorded processors given.Tick = Unit {0}
IsRecorded processors (given.Int i) = (1 ≤ i) × (i ≤ 32)

-- what is written of a run, of at most 2^31 events, is read as this run
abbrev pub PrintedRecordingsReadBack : Type 0
PrintedRecordingsReadBack =
    (processors : ℕ) (gs : List Given) → processors < 256 → AllByRecursion (IsRecorded processors) gs
    → length gs ≤ 2 ^ 31 → recording_of processors (recording_text gs) ≡ Ok gs

-- a line that a recording of such a system can hold
abbrev pub IsRecordedLine : (processors : ℕ) → RecordedLine → Type 0
IsRecordedLine processors (recorded.Came g) = IsRecorded processors g
IsRecordedLine processors recorded.Restart = Unit {0}

-- the lines that are written, at most 2^31, are read as these lines
abbrev pub PrintedLinesReadBack : Type 0
PrintedLinesReadBack =
    (processors : ℕ) (rs : List RecordedLine) → processors < 256 → AllByRecursion (IsRecordedLine processors) rs
    → length rs ≤ 2 ^ 31 → recorded_of processors (recorded_lines_text rs) ≡ Ok rs

-- a time that a line can have
abbrev pub IsTime : Option ℕ → Type 0
IsTime None = Unit {0}
IsTime (Some n) = n ≤ 2 ^ 53

-- what is written of a run with times is read as this run, and as these times
abbrev pub TimedRecordingsReadBack : Type 0
TimedRecordingsReadBack =
    (processors : ℕ) (gs : List Given) (ts : List (Option ℕ)) → processors < 256
    → AllByRecursion (IsRecorded processors) gs → AllByRecursion IsTime ts → length ts ≡ length gs
    → length gs ≤ 2 ^ 31 → (recording_of processors (timed_text gs ts) ≡ Ok gs) × (times_of (timed_text gs ts) ≡ ts)
