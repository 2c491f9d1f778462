use Rattle.std.proofs.Common.{◌≡◌, take}
use Rattle.std.specs.List.{count_by}
use Rattle.fmp_json.specs.Junit.{is_failure}
use Rattle.fmp_json.proofs.junit.failures.Given as goal

abbrev pub invariant-loop-case : goal.invariant-loop-case
invariant-loop-case l = l.count ≡ count_by (λ c. is_failure c.verdict) (take l.case-index l.cases)
