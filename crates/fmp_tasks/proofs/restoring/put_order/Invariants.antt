use Rattle.fmp_tasks.proofs.restoring.put_order.Given as goal
use Rattle.fmp_tasks.specs.Tables.{SameShape}

abbrev pub invariant-loop-task : goal.invariant-loop-task
invariant-loop-task l = SameShape l.fn.tables l.tables
