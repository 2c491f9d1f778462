use Rattle.fmp_tasks.proofs.restoring.put_counts.Given as goal
use Rattle.fmp_tasks.specs.Tables.{SameShape}

abbrev pub invariant-loop-s : goal.invariant-loop-s
invariant-loop-s l = SameShape l.fn.tables l.tables
