use Rattle.fmp_tasks.proofs.restoring.put_shared_words.Given as goal
use Rattle.fmp_tasks.specs.Tables.{SameShape}

abbrev pub invariant-loop-w : goal.invariant-loop-w
invariant-loop-w l = SameShape l.fn.tables l.tables
