use Rattle.fmp_tasks.proofs.restoring.empty_mailbox.Given as goal
use Rattle.fmp_tasks.specs.Tables.{SameShape}

abbrev pub invariant-loop : goal.invariant-loop
invariant-loop l = SameShape l.fn.tables l.tables
