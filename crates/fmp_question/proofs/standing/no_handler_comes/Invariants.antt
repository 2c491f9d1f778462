use Rattle.fmp_question.specs.Standing.{NoHandlerComes}
use Rattle.fmp_question.proofs.standing.no_handler_comes.Given as goal

abbrev pub invariant-loop-c : goal.invariant-loop-c
invariant-loop-c l = NoHandlerComes l.tables.state l.c
