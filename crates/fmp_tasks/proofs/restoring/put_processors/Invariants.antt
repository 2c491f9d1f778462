use Rattle.fmp_tasks.proofs.restoring.put_processors.Given as goal
use Rattle.fmp_tasks.specs.Tables.{SameShape}

abbrev pub invariant-loop-p : goal.invariant-loop-p
invariant-loop-p l = SameShape l.fn.tables l.tables
