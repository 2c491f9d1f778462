use Rattle.std.proofs.Common.{◌≡◌, take}
use Rattle.fmp_diagnosis.specs.Nearest as spec
use Rattle.fmp_diagnosis.proofs.nearness.distances.Given as goal

abbrev pub invariant-loop-one : goal.invariant-loop-one
invariant-loop-one l = l.all.items ≡ spec.distances l.name (take l.one-index l.known)
