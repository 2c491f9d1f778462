use Rattle.fmp_schedules.specs.Deadlocks.{IsStuck}
use Rattle.fmp_question.proofs.standing.is_someone_stuck.Given as goal

abbrev pub invariant-loop-t : goal.invariant-loop-t
invariant-loop-t l = IsStuck l.question.rest.items l.tables.state l.t → ⊥
