use Rattle.std.proofs.Common.{◌≡◌, ◌≤◌}
use Rattle.std.specs.Prelude.{max}
use Rattle.fmp_diagnosis.specs.StepFindings.{line_at}
use Rattle.fmp_diagnosis.proofs.steps.line_start.Given as goal

abbrev pub invariant-loop-i : goal.invariant-loop-i
invariant-loop-i l = record {
  line : l.line ≡ line_at l.text l.i;
  small : l.line ≤ max l.number 1;
}
