use Rattle.std.proofs.Common.{◌≡◌, ◌++◌, drop}
use Rattle.fmp_json.specs.Junit.{suites_text}
use Rattle.fmp_json.proofs.junit.append_suites.Given as goal

abbrev pub invariant-loop-suite : goal.invariant-loop-suite
invariant-loop-suite l =
    l.out.items ++ suites_text (drop l.suite-index l.suites) ≡ l.initial.out.items ++ suites_text l.suites
