use Rattle.fmp_tasks.proofs.restoring.empty_mailboxes.Given as goal
use Rattle.fmp_tasks.specs.Tables.{SameShape}

abbrev pub invariant-loop-x : goal.invariant-loop-x
invariant-loop-x l = SameShape l.fn.tables l.tables
