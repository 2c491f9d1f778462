use Rattle.std.proofs.Common.{◌≡◌, ◌++◌, drop, map}
use Rattle.fmp_looking.proofs.test_reports.add_expected.Given as goal

abbrev pub invariant-loop-one : goal.invariant-loop-one
invariant-loop-one l =
    l.lines.items ++ map (λ x. x.line) (drop l.one-index l.expected)
    ≡ l.initial.lines.items ++ map (λ x. x.line) l.expected
