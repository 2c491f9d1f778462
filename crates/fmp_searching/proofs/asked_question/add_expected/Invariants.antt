use Rattle.std.proofs.Common.{◌≡◌, ◌++◌, drop, map}
use Rattle.fmp_searching.specs.Questions.{monitor_of}
use Rattle.fmp_searching.proofs.asked_question.add_expected.Given as goal

abbrev pub invariant-loop-said : goal.invariant-loop-said
invariant-loop-said l =
    l.monitors.items ++ map (λ x. monitor_of x) (drop l.said-index l.expected)
    ≡ l.initial.monitors.items ++ map (λ x. monitor_of x) l.expected
