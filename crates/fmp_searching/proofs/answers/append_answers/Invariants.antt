use Rattle.std.proofs.Common.{◌≡◌, ◌++◌, drop, map}
use Rattle.std.specs.List.{flat_map}
use Rattle.fmp_searching.specs.Answers.{answered_text}
use Rattle.fmp_searching.specs.Made.{answered_call}
use Rattle.fmp_searching.proofs.answers.append_answers.Given as goal

abbrev pub invariant-loop-call : goal.invariant-loop-call
invariant-loop-call l =
    l.out.items ++ flat_map (λ call. answered_text l.src call) (map answered_call (drop l.call-index l.calls))
    ≡ l.initial.out.items ++ flat_map (λ call. answered_text l.src call) (map answered_call l.calls)
