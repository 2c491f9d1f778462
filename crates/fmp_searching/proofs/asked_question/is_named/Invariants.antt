use Rattle.std.proofs.Common.{◌≡◌, drop}
use Rattle.fmp_searching.specs.Questions.{is_named}
use Rattle.fmp_searching.proofs.asked_question.is_named.Given as goal

abbrev pub invariant-loop-word : goal.invariant-loop-word
invariant-loop-word l =
    is_named (drop l.word-index l.words) l.task ≡ is_named l.words l.task
