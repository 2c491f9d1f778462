use Rattle.std.proofs.Common.{◌≡◌, ◌≤◌, ◌+◌, ◌^◌, length}
use Rattle.fmp_recording.specs.Recordings.{recorded_from, recorded_of}
use Rattle.fmp_recording.proofs.LineByLine.{after_all}
use Rattle.fmp_recording.proofs.reading.read_lines.Given as goal
use Rattle.fmp_trace.specs.Steps.{lines_of}

-- what is read so far, and what the lines say that are left, are what the text says
abbrev pub invariant-loop-rest : goal.invariant-loop-rest
invariant-loop-rest l = record {
  counted : l.number ≤ 2 ^ 31 + 1;
  said : after_all l.lines.items (recorded_from l.processors l.number (lines_of l.rest))
      ≡ recorded_of l.processors l.text;
}

abbrev pub decreases-loop-rest : goal.decreases-loop-rest
decreases-loop-rest l = length l.rest
