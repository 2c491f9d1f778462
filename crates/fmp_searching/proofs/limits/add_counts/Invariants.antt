use Rattle.std.proofs.Common.{◌≡◌, ◌++◌, drop}
use Rattle.fmp_searching.specs.Limits.{counts_in}
use Rattle.fmp_searching.proofs.limits.add_counts.Given as goal

abbrev pub invariant-loop-word : goal.invariant-loop-word
invariant-loop-word l =
    l.limits.items ++ counts_in (drop l.word-index l.words) ≡ l.initial.limits.items ++ counts_in l.words
