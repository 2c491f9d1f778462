use Rattle.std.proofs.Common.{◌≡◌, ◌++◌, drop}
use Rattle.std.specs.List.{flat_map}
use Rattle.fmp_searching.specs.Answers.{name_text}
use Rattle.fmp_searching.proofs.answers.append_each.Given as goal

abbrev pub invariant-loop-code : goal.invariant-loop-code
invariant-loop-code l =
    l.out.items ++ flat_map (λ c. name_text c) (drop l.code-index l.answers)
    ≡ l.initial.out.items ++ flat_map (λ c. name_text c) l.answers
