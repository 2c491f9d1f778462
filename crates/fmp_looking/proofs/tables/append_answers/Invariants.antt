use Rattle.std.proofs.Common.{◌≡◌, ◌++◌, drop}
use Rattle.std.specs.List.{flat_map}
use Rattle.fmp_looking.specs.Tables.{answer_times, times_answered}
use Rattle.fmp_looking.proofs.tables.append_answers.Given as goal

abbrev pub invariant-loop-code : goal.invariant-loop-code
invariant-loop-code l =
    l.out.items ++ flat_map (λ c. answer_times c (times_answered l.calls l.position c)) (drop l.code-index l.codes)
    ≡ l.initial.out.items ++ flat_map (λ c. answer_times c (times_answered l.calls l.position c)) l.codes
