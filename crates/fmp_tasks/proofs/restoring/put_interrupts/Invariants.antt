use Rattle.fmp_tasks.proofs.restoring.put_interrupts.Given as goal
use Rattle.fmp_tasks.specs.Tables.{SameShape}

abbrev pub invariant-loop-i : goal.invariant-loop-i
invariant-loop-i l = SameShape l.fn.tables l.tables
