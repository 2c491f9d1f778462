use Rattle.std.proofs.Common.{◌≡◌, drop}
use Rattle.fmp_searching.specs.Questions.{is_resting}
use Rattle.fmp_searching.proofs.asked_question.is_resting.Given as goal

abbrev pub invariant-loop-said : goal.invariant-loop-said
invariant-loop-said l =
    is_resting l.tasks (drop l.said-index l.expected) l.task ≡ is_resting l.tasks l.expected l.task
