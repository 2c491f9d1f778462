use Rattle.std.proofs.Common.{◌≡◌, ◌++◌, drop}
use Rattle.fmp_searching.specs.Questions.{codes_in}
use Rattle.fmp_searching.proofs.asking.codes_in.Given as goal

abbrev pub invariant-loop-word : goal.invariant-loop-word
invariant-loop-word l =
    l.codes.items ++ codes_in (drop l.word-index l.words) ≡ codes_in l.words
