-- The replay of a recording on a kernel whose bodies run outside.
use Rattle.std.specs.Prelude.{◌≡◌, ◌⊎◌, ◌+◌, ◌<◌, ◌≤◌, ◌^◌, ℕ, pos, List, [], ◌∷◌, ◌++◌, Option, Some, None, Ok, Err}
use Rattle.std.specs.Prelude.{length}
use Rattle.std.specs.List.{AllByRecursion}
use Rattle.fmp_base.specs.declared.systems.System.{System}
use Rattle.fmp_base.specs.Runs.{Trace}
use Rattle.fmp_base.specs.Setups.{setup}
use Rattle.fmp_base.specs.Systems.{SystemTables, tables_of}
use Rattle.fmp_base.specs.Steps.{Reaction, Nothing, Did, Kept}
use Rattle.fmp_base.specs.Texts.{events_text, lines_text, states_text, trace_text}
use Rattle.fmp_cfgparse.specs.Configurations.{Describes, IsRead}
use Rattle.fmp_foreign.specs.declared.foreign.LastTold.{LastTold}
use Rattle.fmp_foreign.specs.declared.foreign.LastTold.TheVariants as told
use Rattle.fmp_foreign.specs.declared.hosted.HostedSystem.{HostedSystem}
use Rattle.fmp_foreign.specs.declared.requests.Refusal.{Refusal}
use Rattle.fmp_foreign.specs.Foreign.{foreign_meaning}
use Rattle.fmp_foreign.specs.Hosting.{ForeignKernel, reaction, refused, restarted}
use Rattle.fmp_kernel.specs.KernelViews.{view_after, view_of_setup}
use Rattle.fmp_kernel.specs.Restarts.{counts_restarted}
use Rattle.fmp_outside.specs.declared.given.Given.{Given}
use Rattle.fmp_outside.specs.Outside.{outside_run}
use Rattle.fmp_recording.specs.declared.faults.RecordingFault.{RecordingFault}
use Rattle.fmp_recording.specs.declared.replaying.ReplayFault.{ReplayFault}
use Rattle.fmp_recording.specs.declared.replaying.ReplayFault.TheVariants as fault
use Rattle.fmp_recording.specs.declared.recorded.RecordedLine.{RecordedLine}
use Rattle.fmp_recording.specs.declared.recorded.RecordedLine.TheVariants as recorded
use Rattle.fmp_recording.specs.RecordingLaws.{IsRecorded, IsRecordedLine}
use Rattle.fmp_recording.specs.Recordings.{IsFaultOf, came_lines, recorded_lines_text, recorded_of, recording_text}

-- the run of a kernel over what comes to it
abbrev pub run_of : ForeignKernel → List Given → Trace LastTold
run_of k gs = outside_run k.system (foreign_meaning k.body) k.bound (told.Starts (pos 0)) k.world gs

-- the text of the lines of its events, numbered on
abbrev pub text_of : ForeignKernel → List Given → List ℕ
text_of k gs = events_text k.system (k.done + 1) (run_of k gs).events

abbrev pub or_else : Option Refusal → Option Refusal → Option Refusal
or_else None later = later
or_else (Some why) later = Some why

-- why the first of these is refused that is, if one is
abbrev pub refusal_in : ForeignKernel → List Given → Option Refusal
refusal_in k [] = None
refusal_in k (g ∷ gs) = or_else (refused k g) (refusal_in (view_after k (reaction k g)) gs)

-- what an event adds to a text
abbrev pub added_by : ForeignKernel → Reaction LastTold → List ℕ
added_by k Nothing = []
added_by k (Did d) = lines_text k.system (k.done + 1) d.lines
added_by k (Kept p w) = []

-- what stands for the first of these was appended, and no more
pub record IsCutOff {A : Type 0} (text_for : List A → List ℕ) (all : List A) (before after : List ℕ) : Type 0 where
  pub done : List A
  pub left : List A
  pub all_are : all ≡ done ++ left
  pub text : after ≡ before ++ text_for done

-- a kernel has taken what came, and the lines of its event are written
pub record HasTaken (old new : HostedSystem) (g : Given) (before after : List ℕ) : Type 0 where
  pub taken : refused old.kernel g ≡ None
  pub kernel : new.kernel ≡ view_after old.kernel (reaction old.kernel g)
  pub system : new.system ≡ old.system
  pub text : after ≡ before ++ added_by old.kernel (reaction old.kernel g)

-- why what came is not taken, or not written
abbrev pub IsWhyNotTaken : ForeignKernel → Given → ReplayFault → Type 0
IsWhyNotTaken k g (fault.Configuration why) = ⊥
IsWhyNotTaken k g (fault.Recording why) = ⊥
IsWhyNotTaken k g (fault.Refused why) = refused k g ≡ Some why
IsWhyNotTaken k g fault.Memory = Unit {0}

-- a kernel has taken all that was recorded: the lines of the recorded run are written, and it stands where that run
-- ends
pub record HasReplayed (old new : HostedSystem) (gs : List Given) (before after : List ℕ) : Type 0 where
  pub taken : refusal_in old.kernel gs ≡ None
  pub text : after ≡ before ++ text_of old.kernel gs
  pub world : new.kernel.world ≡ (run_of old.kernel gs).world
  pub tables : new.kernel.system ≡ old.kernel.system
  pub system : new.system ≡ old.system

-- why a replay stops
abbrev pub IsWhyStopped : ForeignKernel → List Given → ReplayFault → Type 0
IsWhyStopped k gs (fault.Configuration why) = ⊥
IsWhyStopped k gs (fault.Recording why) = ⊥
IsWhyStopped k gs (fault.Refused why) = refusal_in k gs ≡ Some why
IsWhyStopped k gs fault.Memory = Unit {0}

-- a kernel after what the lines of its recording say
abbrev pub kernel_after : ForeignKernel → List RecordedLine → ForeignKernel
kernel_after k [] = k
kernel_after k (recorded.Came g ∷ rs) = kernel_after (view_after k (reaction k g)) rs
kernel_after k (recorded.Restart ∷ rs) = kernel_after (counts_restarted k) rs

-- the text of the lines of its events, whose numbers begin again with the counts
abbrev pub text_after : ForeignKernel → List RecordedLine → List ℕ
text_after k [] = []
text_after k (recorded.Came g ∷ rs) = added_by k (reaction k g) ++ text_after (view_after k (reaction k g)) rs
text_after k (recorded.Restart ∷ rs) = text_after (counts_restarted k) rs

-- why the first of what came is refused that is, if one is
abbrev pub first_refusal : ForeignKernel → List RecordedLine → Option Refusal
first_refusal k [] = None
first_refusal k (recorded.Came g ∷ rs) = or_else (refused k g) (first_refusal (view_after k (reaction k g)) rs)
first_refusal k (recorded.Restart ∷ rs) = first_refusal (counts_restarted k) rs

-- a kernel has done what a line says
abbrev pub HasDone : (old new : HostedSystem) → RecordedLine → (before after : List ℕ) → Type 0
HasDone old new (recorded.Came g) before after = HasTaken old new g before after
HasDone old new recorded.Restart before after = (new ≡ restarted old) × (after ≡ before)

abbrev pub IsWhyNotDone : ForeignKernel → RecordedLine → ReplayFault → Type 0
IsWhyNotDone k (recorded.Came g) why = IsWhyNotTaken k g why
IsWhyNotDone k recorded.Restart why = ⊥

-- a kernel has done what all lines say: the lines of its events are written
pub record HasDoneAll (old new : HostedSystem) (rs : List RecordedLine) (before after : List ℕ) : Type 0 where
  pub taken : first_refusal old.kernel rs ≡ None
  pub text : after ≡ before ++ text_after old.kernel rs
  pub kernel : new.kernel ≡ kernel_after old.kernel rs
  pub tables : new.kernel.system ≡ old.kernel.system
  pub system : new.system ≡ old.system

-- why it stops
abbrev pub IsWhyNotAll : ForeignKernel → List RecordedLine → ReplayFault → Type 0
IsWhyNotAll k rs (fault.Configuration why) = ⊥
IsWhyNotAll k rs (fault.Recording why) = ⊥
IsWhyNotAll k rs (fault.Refused why) = first_refusal k rs ≡ Some why
IsWhyNotAll k rs fault.Memory = Unit {0}

-- a new kernel of these tables
abbrev pub new_kernel : SystemTables → ForeignKernel
new_kernel sys = view_of_setup tt 1 sys (setup sys (foreign_meaning tt))

-- the whole trace of a recorded run: the lines of setup, those of each event that is done, numbered from 1, and from 1
-- again where the counts began again, and the states of the tasks at the end
abbrev pub recorded_trace : SystemTables → List RecordedLine → List ℕ
recorded_trace sys rs =
    let k = new_kernel sys in
    lines_text sys 0 k.lines ++ (text_after k rs ++ states_text sys (kernel_after k rs).world.state)

-- the trace of a recorded run without the states at the end
abbrev pub trace_so_far : SystemTables → List RecordedLine → List ℕ
trace_so_far sys rs = let k = new_kernel sys in lines_text sys 0 k.lines ++ text_after k rs

-- the whole trace of a recorded run of this system was appended
pub record HasRun (system : System) (recording before after : List ℕ) : Type 0 where
  pub lines : List RecordedLine
  pub recorded : recorded_of system.processors recording ≡ Ok lines
  pub trace : after ≡ before ++ recorded_trace (tables_of system) lines

-- why a recorded run of this system is not replayed: nothing that stands in a recording of it is refused
abbrev pub IsWhyNotRun : System → (recording : List ℕ) → ReplayFault → Type 0
IsWhyNotRun system recording (fault.Configuration why) = ⊥
IsWhyNotRun system recording (fault.Recording why) = IsFaultOf why (recorded_of system.processors recording)
IsWhyNotRun system recording (fault.Refused why) = ⊥
IsWhyNotRun system recording fault.Memory = Unit {0}

-- the trace of a beginning of a recorded run of this system was appended
pub record HasBegunRun (system : System) (recording before after : List ℕ) : Type 0 where
  pub lines : List RecordedLine
  pub recorded : recorded_of system.processors recording ≡ Ok lines
  pub trace : IsCutOff (trace_so_far (tables_of system)) lines before after

-- what an error leaves of the trace of a recorded run of this system: nothing of it is written, or its beginning if
-- memory ran out
abbrev pub LeavesRun : System → (recording before after : List ℕ) → ReplayFault → Type 0
LeavesRun system recording before after (fault.Configuration why) = ⊥
LeavesRun system recording before after (fault.Recording why) = after ≡ before
LeavesRun system recording before after (fault.Refused why) = ⊥
LeavesRun system recording before after fault.Memory =
    (after ≡ before) ⊎ HasBegunRun system recording before after

-- the trace of the recorded run of a system that this configuration describes was appended
pub record IsReplay (cfg recording before after : List ℕ) : Type 0 where
  pub system : System
  pub described : Describes cfg system
  pub replayed : HasRun system recording before after

-- the same of its beginning
pub record HasBegunReplay (cfg recording before after : List ℕ) : Type 0 where
  pub system : System
  pub described : Describes cfg system
  pub begun : HasBegunRun system recording before after

-- what an error leaves of the trace of a replay
abbrev pub LeavesTrace : (cfg recording before after : List ℕ) → ReplayFault → Type 0
LeavesTrace cfg recording before after (fault.Configuration why) = after ≡ before
LeavesTrace cfg recording before after (fault.Recording why) = after ≡ before
LeavesTrace cfg recording before after (fault.Refused why) = ⊥
LeavesTrace cfg recording before after fault.Memory =
    (after ≡ before) ⊎ HasBegunReplay cfg recording before after

pub record IsRecordingFault (cfg recording : List ℕ) (why : RecordingFault) : Type 0 where
  pub system : System
  pub described : Describes cfg system
  pub fault : IsFaultOf why (recorded_of system.processors recording)

-- the fault of a configuration, or of a recording of the system that it describes
abbrev pub IsReplayFault : (cfg recording : List ℕ) → ReplayFault → Type 0
IsReplayFault cfg recording (fault.Configuration why) = IsRead cfg (Err why)
IsReplayFault cfg recording (fault.Recording why) = IsRecordingFault cfg recording why
IsReplayFault cfg recording (fault.Refused why) = ⊥
IsReplayFault cfg recording fault.Memory = Unit {0}

-- what is written of a run of a system, of at most 2^31 events, is replayed to the trace of this run
abbrev pub RecordedRunsAreReplayed : Type 0
RecordedRunsAreReplayed =
    (system : System) (gs : List Given) (before after : List ℕ) → system.processors < 256
    → AllByRecursion (IsRecorded system.processors) gs → length gs ≤ 2 ^ 31
    → HasRun system (recording_text gs) before after
    → after
    ≡ before
    ++ trace_text (tables_of system) (new_kernel (tables_of system)).lines (run_of (new_kernel (tables_of system)) gs)

-- what is written of lines of a recording of a system, at most 2^31, is replayed to the trace of what they say
abbrev pub RecordedLinesAreReplayed : Type 0
RecordedLinesAreReplayed =
    (system : System) (rs : List RecordedLine) (before after : List ℕ) → system.processors < 256
    → AllByRecursion (IsRecordedLine system.processors) rs → length rs ≤ 2 ^ 31
    → HasRun system (recorded_lines_text rs) before after → after ≡ before ++ recorded_trace (tables_of system) rs

-- a recording whose counts never began again is replayed to the trace of the run over what came
abbrev pub WholeRunsAreReplayed : Type 0
WholeRunsAreReplayed =
    (system : System) (recording : List ℕ) (gs : List Given) (before after : List ℕ)
    → recorded_of system.processors recording ≡ Ok (came_lines gs) → HasRun system recording before after
    → after
    ≡ before
    ++ trace_text (tables_of system) (new_kernel (tables_of system)).lines (run_of (new_kernel (tables_of system)) gs)
