use Rattle.std.proofs.Common.{◌≡◌, ◌+◌, ◌≤◌}
use Rattle.fmp_diagnosis.specs.StepFindings.{line_at}
use Rattle.fmp_diagnosis.proofs.steps.within_line.Given as goal

abbrev pub invariant-loop-i : goal.invariant-loop-i
invariant-loop-i l = record {
  line : line_at l.text l.i ≡ line_at l.text l.from;
  far : l.i ≤ l.from + l.count;
}
