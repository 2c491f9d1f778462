use Rattle.std.proofs.Common.{◌≡◌, drop}
use Rattle.fmp_searching.specs.Unsaid.{is_one_unsaid}
use Rattle.fmp_searching.proofs.unsaid.is_one_unsaid.Given as goal

abbrev pub invariant-loop-i : goal.invariant-loop-i
invariant-loop-i l =
    is_one_unsaid (drop l.i l.monitors) (drop l.i l.premises) ≡ is_one_unsaid l.monitors l.premises
