use Rattle.std.proofs.Common.{◌≡◌, drop}
use Rattle.fmp_frames.specs.Times as spec
use Rattle.fmp_frames.proofs.times.are_known.Given as goal

abbrev pub invariant-loop-time : goal.invariant-loop-time
invariant-loop-time l = spec.are_known (drop l.time-index l.times) ≡ spec.are_known l.times
