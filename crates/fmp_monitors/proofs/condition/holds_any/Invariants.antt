use Rattle.std.proofs.Common.{◌≡◌, drop}
use Rattle.fmp_monitors.specs.Conditions.{passes_one}
use Rattle.fmp_monitors.proofs.ConditionLaws.{passes_on}
use Rattle.fmp_monitors.proofs.condition.holds_any.Given as goal

abbrev pub invariant-loop-test : goal.invariant-loop-test
invariant-loop-test l =
    passes_on (drop l.test-index l.tests) l.state.state l.so_far ≡ passes_one l.tests l.state.state
