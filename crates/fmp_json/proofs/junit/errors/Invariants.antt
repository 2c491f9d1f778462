use Rattle.std.proofs.Common.{◌≡◌, take}
use Rattle.std.specs.List.{count_by}
use Rattle.fmp_json.specs.Junit.{is_error}
use Rattle.fmp_json.proofs.junit.errors.Given as goal

abbrev pub invariant-loop-case : goal.invariant-loop-case
invariant-loop-case l = l.count ≡ count_by (λ c. is_error c.verdict) (take l.case-index l.cases)
