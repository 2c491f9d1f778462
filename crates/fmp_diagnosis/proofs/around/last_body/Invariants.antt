use Rattle.std.proofs.Common.{◌≡◌}
use Rattle.fmp_diagnosis.specs.Tokens as spec
use Rattle.fmp_diagnosis.proofs.around.last_body.Given as goal

abbrev pub invariant-loop-at : goal.invariant-loop-at
invariant-loop-at l = l.found ≡ spec.last_body l.tokens l.at
