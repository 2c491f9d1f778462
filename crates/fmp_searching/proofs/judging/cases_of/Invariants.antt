use Rattle.std.proofs.Common.{◌≡◌, ◌++◌, drop, map}
use Rattle.fmp_searching.specs.Tests.{counted_test, wanted_test}
use Rattle.fmp_searching.proofs.judging.cases_of.Given as goal

abbrev pub invariant-loop-test : goal.invariant-loop-test
invariant-loop-test l =
    map counted_test l.cases.items ++ map wanted_test (drop l.test-index l.tests) ≡ map wanted_test l.tests
