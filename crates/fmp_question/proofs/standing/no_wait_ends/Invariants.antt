use Rattle.fmp_question.specs.Standing.{NoWaitEnds}
use Rattle.fmp_question.proofs.standing.no_wait_ends.Given as goal

abbrev pub invariant-loop-t : goal.invariant-loop-t
invariant-loop-t l = NoWaitEnds l.tables.state l.t
