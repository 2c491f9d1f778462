use Rattle.std.proofs.Common.{◌≡◌, ◌++◌, drop}
use Rattle.fmp_trace.specs.Fronts.{Begins}
use Rattle.fmp_recording.specs.Recordings.{timed_text}
use Rattle.fmp_recording.proofs.timed_printing.append_timed.Given as goal

abbrev pub invariant-loop-place : goal.invariant-loop-place
invariant-loop-place l = record {
  text :
      l.out.items ++ timed_text (drop l.place l.recording) (drop l.place l.times)
      ≡ l.initial.out.items ++ timed_text l.recording l.times;
  kept : Begins l.initial.out.items l.out.items;
}
