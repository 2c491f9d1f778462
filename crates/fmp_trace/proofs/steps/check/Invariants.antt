use Rattle.std.proofs.Common.{◌≤◌, length}
use Rattle.fmp_trace.specs.Steps.{Agrees, steps_of, events_of, lines_of}
use Rattle.fmp_trace.proofs.steps.check.Given as goal

-- the lines that are left read as the whole text does
abbrev pub invariant-loop-rest : goal.invariant-loop-rest
invariant-loop-rest l = record {
  counted : l.number ≤ 1048577;
  agrees : Agrees (events_of l.processors l.number (lines_of l.rest)) (steps_of l.processors l.text);
}

abbrev pub decreases-loop-rest : goal.decreases-loop-rest
decreases-loop-rest l = length l.rest
