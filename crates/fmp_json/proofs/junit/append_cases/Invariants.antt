use Rattle.std.proofs.Common.{◌≡◌, ◌++◌, drop}
use Rattle.fmp_json.specs.Junit.{cases_text}
use Rattle.fmp_json.proofs.junit.append_cases.Given as goal

abbrev pub invariant-loop-case : goal.invariant-loop-case
invariant-loop-case l =
    l.out.items ++ cases_text l.file (drop l.case-index l.cases) ≡ l.initial.out.items ++ cases_text l.file l.cases
