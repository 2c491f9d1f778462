use Rattle.std.proofs.Common.{◌≡◌, ◌++◌, drop}
use Rattle.fmp_searching.specs.Questions.{marks}
use Rattle.fmp_searching.proofs.asked_question.marks.Given as goal

abbrev pub invariant-loop-task : goal.invariant-loop-task
invariant-loop-task l =
    l.rest.items ++ marks l.tasks (drop l.task-index l.tasks) l.words l.expected
    ≡ marks l.tasks l.tasks l.words l.expected
