use Rattle.std.proofs.Common.{◌≡◌, ◌++◌, drop, map}
use Rattle.fmp_looking.specs.Judgements.{named_case, told_test, wanted_test}
use Rattle.fmp_looking.proofs.judged_cases.tests_of.Given as goal

abbrev pub invariant-loop-case : goal.invariant-loop-case
invariant-loop-case l =
    map told_test l.tests.items ++ map (wanted_test l.strict) (map named_case (drop l.case-index l.cases))
    ≡ map (wanted_test l.strict) (map named_case l.cases)
