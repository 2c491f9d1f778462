use Rattle.std.proofs.Common.{◌≡◌, ◌++◌, drop}
use Rattle.fmp_trace.specs.Fronts.{Begins}
use Rattle.fmp_recording.specs.Recordings.{recording_text}
use Rattle.fmp_recording.proofs.printing.append_recording.Given as goal

abbrev pub invariant-loop-given : goal.invariant-loop-given
invariant-loop-given l = record {
  text :
      l.out.items ++ recording_text (drop l.given-index l.recording)
      ≡ l.initial.out.items ++ recording_text l.recording;
  kept : Begins l.initial.out.items l.out.items;
}
