use Rattle.std.proofs.Common.{◌≡◌, ◌∷◌, map, take}
use Rattle.fmp_frames.specs.Times as spec
use Rattle.fmp_frames.proofs.times.known_times.Given as goal

abbrev pub invariant-loop-time : goal.invariant-loop-time
invariant-loop-time l = l.known.items ≡ 0 ∷ map spec.or_zero (take l.time-index l.times)
