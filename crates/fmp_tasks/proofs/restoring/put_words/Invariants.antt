use Rattle.fmp_tasks.proofs.restoring.put_words.Given as goal
use Rattle.fmp_tasks.specs.Tables.{SameShape}

abbrev pub invariant-loop-saved : goal.invariant-loop-saved
invariant-loop-saved l = SameShape l.fn.tables l.tables
