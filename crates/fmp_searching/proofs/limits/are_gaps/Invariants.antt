use Rattle.std.proofs.Common.{◌≡◌, drop, is_some}
use Rattle.std.specs.List.{list_all}
use Rattle.fmp_searching.specs.Limits.{gap_named}
use Rattle.fmp_searching.proofs.limits.are_gaps.Given as goal

abbrev pub invariant-loop-word : goal.invariant-loop-word
invariant-loop-word l =
    list_all (λ word. is_some (gap_named word.now)) (drop l.word-index l.words)
    ≡ list_all (λ word. is_some (gap_named word.now)) l.words
