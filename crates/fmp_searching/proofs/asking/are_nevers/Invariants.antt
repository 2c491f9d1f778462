use Rattle.std.proofs.Common.{◌≡◌, drop}
use Rattle.fmp_searching.specs.Questions.{are_nevers}
use Rattle.fmp_searching.proofs.asking.are_nevers.Given as goal

abbrev pub invariant-loop-word : goal.invariant-loop-word
invariant-loop-word l =
    are_nevers (drop l.word-index l.words) ≡ are_nevers l.words
