use Rattle.std.proofs.Common.{◌≡◌, drop}
use Rattle.fmp_searching.specs.Questions.{has_end}
use Rattle.fmp_searching.proofs.asked_question.has_end.Given as goal

abbrev pub invariant-loop-said : goal.invariant-loop-said
invariant-loop-said l = has_end (drop l.said-index l.expected) ≡ has_end l.expected
