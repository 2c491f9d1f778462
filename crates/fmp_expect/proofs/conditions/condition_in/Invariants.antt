use Rattle.std.proofs.Common.{◌≡◌, ◌-◌, List, true}
use Rattle.fmp_base.specs.Systems.{tables_of}
use Rattle.fmp_monitors.specs.declared.condition.ConditionTest.{ConditionTest}
use Rattle.fmp_expect.specs.Conditions.{condition_with, tests_of}
use Rattle.fmp_expect.specs.Words.{words_of}
use Rattle.fmp_expect.proofs.Tests.{IsReading}
use Rattle.fmp_expect.proofs.conditions.condition_in.Given as goal

-- the tests so far are those of the condition, and the words that are left are read into the others
abbrev pub invariant-loop-condition : goal.invariant-loop-condition
invariant-loop-condition l =
    let sys = tables_of l.sys in
    (ts : List ConditionTest) × (l.condition ≡ condition_with ts)
    × IsReading sys ts l.alternative (words_of l.rest) (tests_of sys 8 true (words_of l.line))

abbrev pub decreases-loop-condition : goal.decreases-loop-condition
decreases-loop-condition l = 8 - l.condition.count
