use Rattle.std.proofs.Common.{◌≡◌, ◌++◌, drop}
use Rattle.fmp_searching.specs.Questions.{sections_in}
use Rattle.fmp_searching.proofs.asking.sections_in.Given as goal

abbrev pub invariant-loop-word : goal.invariant-loop-word
invariant-loop-word l =
    l.sections.items ++ sections_in (drop l.word-index l.words) ≡ sections_in l.words
