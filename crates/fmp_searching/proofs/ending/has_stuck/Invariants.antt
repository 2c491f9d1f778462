use Rattle.std.proofs.Common.{◌≡◌, drop}
use Rattle.std.specs.List.{list_any}
use Rattle.fmp_searching.specs.Claims.{is_stuck}
use Rattle.fmp_searching.proofs.ending.has_stuck.Given as goal

abbrev pub invariant-loop-finding : goal.invariant-loop-finding
invariant-loop-finding l =
    list_any (λ f. is_stuck f) (drop l.finding-index l.findings) ≡ list_any (λ f. is_stuck f) l.findings
