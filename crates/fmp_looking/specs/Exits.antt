-- What the program says and its status where it ends with nothing printed, and why a recording is not read.
use Rattle.std.specs.Prelude.{ℕ, ◌≡◌, List, Bool, Option, Some, None, codes, nat_eq, if◌then◌else◌, string_bytes}
use Rattle.std.specs.List.{starts_with}
use Rattle.fmp_engine.specs.declared.fault.SimFault.{SimFault}
use Rattle.fmp_engine.specs.declared.fault.SimFault.TheVariants as sim
use Rattle.fmp_engine.specs.Messages.{sim_message}
use Rattle.fmp_files.specs.Messages.{failure_message}
use Rattle.fmp_lex.specs.declared.fault.BuildFault.TheVariants as build
use Rattle.fmp_lex.specs.Messages.{build_message}
use Rattle.fmp_recording.specs.declared.faults.RecordingFault.{RecordingFault}
use Rattle.fmp_recording.specs.declared.faults.RecordingFault.TheVariants as recording
use Rattle.fmp_looking.specs.declared.exit.ViewExit.{ViewExit}
use Rattle.fmp_looking.specs.declared.exit.ViewExit.TheVariants.{Sim, Misplaced, OtherText, Configuration, Recording}
use Rattle.fmp_looking.specs.declared.exit.ViewExit.TheVariants.{LastEvents, Picture, Expect, Failed}
use Rattle.fmp_looking.specs.declared.kinds.Misplaced.TheVariants as misplaced
use Rattle.fmp_looking.specs.declared.timeline.TimelineFault.{TimelineFault}
use Rattle.fmp_looking.specs.declared.timeline.TimelineFault.TheVariants as timeline

-- what is said; of a file in a wrong place, of other faults of a recording and of a picture some sentence is
abbrev pub exit_message : ViewExit → Option (List ℕ)
exit_message (Sim fault) = Some (sim_message fault)
exit_message OtherText = Some (codes "SRC is not the task text of the image: their calls differ")
exit_message (Configuration fault) = Some (build_message fault)
exit_message LastEvents = Some (codes "recording:1: R1\nit has the last events alone, which cannot be replayed")
exit_message (Expect text) = Some (string_bytes text)
exit_message (Failed failure) = Some (failure_message failure)
exit_message _ = None

-- 1 for a fault of what was read, 2 if the run has no such picture, 3 for a failure or if memory ran out
abbrev pub status_of : ViewExit → ℕ
status_of (Sim sim.Memory) = 3
status_of (Sim fault) = 1
status_of (Misplaced file) = 1
status_of OtherText = 1
status_of (Configuration build.Memory) = 3
status_of (Configuration fault) = 1
status_of (Recording recording.Memory) = 3
status_of (Recording fault) = 1
status_of LastEvents = 1
status_of (Picture _) = 2
status_of (Expect text) = 1
status_of (Failed _) = 3

-- a recording has the last events of its run alone: its first line says how many are left out
abbrev pub has_last_events : (text : List ℕ) → Bool
has_last_events text = starts_with nat_eq text (codes "dropped ")

-- why a recording of this text is not read, which has this fault
abbrev pub exit_of_recording : RecordingFault → (text : List ℕ) → ViewExit
exit_of_recording recording.Memory text = Recording recording.Memory
exit_of_recording fault text = if has_last_events text then LastEvents else Recording fault

-- why nothing of a run is printed or drawn, which has this fault
abbrev pub exit_of_run : TimelineFault → ViewExit
exit_of_run (timeline.Sim fault) = Sim fault
exit_of_run (timeline.NoEvent last) = Picture (timeline.NoEvent last)
exit_of_run (timeline.TooLarge first last) = Picture (timeline.TooLarge first last)

-- nothing is made of a file since it has this fault; it may be said too of which kind the file is
abbrev pub IsOver : SimFault → ViewExit → Type 0
IsOver fault (Sim told) = told ≡ fault
IsOver fault (Misplaced (misplaced.Image told kind)) = told ≡ fault
IsOver fault (Misplaced (misplaced.Steps told kind)) = told ≡ fault
IsOver fault _ = ⊥
