use Rattle.fmp_tasks.proofs.restoring.put_blocks.Given as goal
use Rattle.fmp_tasks.specs.Tables.{SameShape}

abbrev pub invariant-loop-t : goal.invariant-loop-t
invariant-loop-t l = SameShape l.fn.tables l.tables
