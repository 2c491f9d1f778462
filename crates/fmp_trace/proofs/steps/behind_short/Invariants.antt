use Rattle.std.proofs.Common.{◌≤◌, List, Result, length}
use Rattle.fmp_base.specs.declared.events.Event.{Event}
use Rattle.fmp_trace.specs.declared.faults.StepsFault.{StepsFault}
use Rattle.fmp_trace.specs.Steps.{Agrees, events_of, lines_of}
use Rattle.fmp_trace.proofs.steps.behind_short.Given as goal

-- the lines that are left read as the text does
abbrev pub invariant-loop-after : goal.invariant-loop-after
invariant-loop-after l = record {
  counted : l.number ≤ 1048577;
  within : length l.rest ≤ length l.text;
  agrees : (whole : Result (List Event) StepsFault) → Agrees (events_of l.processors l.initial.number
      (lines_of l.text)) whole
      → Agrees (events_of l.processors l.number (lines_of l.rest)) whole;
}

abbrev pub decreases-loop-after : goal.decreases-loop-after
decreases-loop-after l = length l.rest
