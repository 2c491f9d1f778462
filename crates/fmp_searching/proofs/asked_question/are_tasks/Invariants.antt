use Rattle.std.proofs.Common.{◌≡◌, drop}
use Rattle.fmp_searching.specs.Questions.{are_tasks}
use Rattle.fmp_searching.proofs.asked_question.are_tasks.Given as goal

abbrev pub invariant-loop-word : goal.invariant-loop-word
invariant-loop-word l =
    are_tasks l.tasks (drop l.word-index l.words) ≡ are_tasks l.tasks l.words
