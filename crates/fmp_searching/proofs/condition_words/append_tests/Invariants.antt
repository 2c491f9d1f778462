use Rattle.std.proofs.Common.{◌≡◌, ◌++◌, drop}
use Rattle.std.specs.List.{flat_map}
use Rattle.fmp_base.specs.Systems.{tables_of}
use Rattle.fmp_searching.specs.Sentences.{test_text}
use Rattle.fmp_searching.proofs.condition_words.append_tests.Given as goal

abbrev pub invariant-loop-test : goal.invariant-loop-test
invariant-loop-test l =
    l.out.items ++ flat_map (λ t. test_text (tables_of l.sys) t) (drop l.test-index l.tests)
    ≡ l.initial.out.items ++ flat_map (λ t. test_text (tables_of l.sys) t) l.tests
