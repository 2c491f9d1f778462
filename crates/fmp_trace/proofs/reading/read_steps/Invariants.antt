use Rattle.std.proofs.Common.{◌≡◌, ◌≤◌, length}
use Rattle.fmp_trace.specs.Steps.{steps_of, events_of, lines_of}
use Rattle.fmp_trace.proofs.EventsRead.{behind_all}
use Rattle.fmp_trace.proofs.reading.read_steps.Given as goal

-- the events so far, and those of the lines that are left, are those of the text
abbrev pub invariant-loop-rest : goal.invariant-loop-rest
invariant-loop-rest l = record {
  counted : l.number ≤ 1048577;
  events : behind_all l.events.items (events_of l.processors l.number (lines_of l.rest)) ≡ steps_of l.processors l.text;
}

abbrev pub decreases-loop-rest : goal.decreases-loop-rest
decreases-loop-rest l = length l.rest
