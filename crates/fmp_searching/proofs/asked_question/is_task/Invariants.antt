use Rattle.std.proofs.Common.{◌≡◌, drop}
use Rattle.fmp_searching.specs.Questions.{is_task}
use Rattle.fmp_searching.proofs.asked_question.is_task.Given as goal

abbrev pub invariant-loop-task : goal.invariant-loop-task
invariant-loop-task l =
    is_task (drop l.task-index l.tasks) l.word ≡ is_task l.tasks l.word
