use Rattle.std.proofs.Common.{◌≡◌, ◌++◌, drop}
use Rattle.fmp_trace.specs.Fronts.{Begins}
use Rattle.fmp_recording.specs.Recordings.{recorded_lines_text}
use Rattle.fmp_recording.proofs.printing.append_lines.Given as goal

abbrev pub invariant-loop-recorded : goal.invariant-loop-recorded
invariant-loop-recorded l = record {
  text :
      l.out.items ++ recorded_lines_text (drop l.recorded-index l.lines)
      ≡ l.initial.out.items ++ recorded_lines_text l.lines;
  kept : Begins l.initial.out.items l.out.items;
}
