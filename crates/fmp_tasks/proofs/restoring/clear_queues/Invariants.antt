use Rattle.fmp_tasks.proofs.restoring.clear_queues.Given as goal
use Rattle.fmp_tasks.specs.Tables.{SameShape}

abbrev pub invariant-loop-d : goal.invariant-loop-d
invariant-loop-d l = SameShape l.fn.tables l.tables
