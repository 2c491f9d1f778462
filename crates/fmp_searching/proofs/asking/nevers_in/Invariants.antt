use Rattle.std.proofs.Common.{◌≡◌, ◌++◌, drop}
use Rattle.fmp_searching.specs.Questions.{nevers_in}
use Rattle.fmp_searching.proofs.asking.nevers_in.Given as goal

abbrev pub invariant-loop-word : goal.invariant-loop-word
invariant-loop-word l =
    l.nevers.items ++ nevers_in (drop l.word-index l.words) ≡ nevers_in l.words
