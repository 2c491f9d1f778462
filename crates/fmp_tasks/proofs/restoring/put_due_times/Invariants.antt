use Rattle.fmp_tasks.proofs.restoring.put_due_times.Given as goal
use Rattle.fmp_tasks.specs.Tables.{SameShape}

abbrev pub invariant-loop-c : goal.invariant-loop-c
invariant-loop-c l = SameShape l.fn.tables l.tables
