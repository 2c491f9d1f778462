use Rattle.fmp_tasks.proofs.restoring.put_patterns.Given as goal
use Rattle.fmp_tasks.specs.Tables.{SameShape}

abbrev pub invariant-loop-f : goal.invariant-loop-f
invariant-loop-f l = SameShape l.fn.tables l.tables
