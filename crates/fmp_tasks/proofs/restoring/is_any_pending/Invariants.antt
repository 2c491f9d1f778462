use Rattle.std.proofs.Common.{◌≤◌}
use Rattle.fmp_tasks.proofs.restoring.is_any_pending.Given as goal

abbrev pub invariant-loop-i : goal.invariant-loop-i
invariant-loop-i l = l.count ≤ l.i
