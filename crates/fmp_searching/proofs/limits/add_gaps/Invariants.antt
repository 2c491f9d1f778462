use Rattle.std.proofs.Common.{◌≡◌, ◌++◌, drop}
use Rattle.fmp_searching.specs.Limits.{gaps_in}
use Rattle.fmp_searching.proofs.limits.add_gaps.Given as goal

abbrev pub invariant-loop-word : goal.invariant-loop-word
invariant-loop-word l =
    l.limits.items ++ gaps_in (drop l.word-index l.words) ≡ l.initial.limits.items ++ gaps_in l.words
