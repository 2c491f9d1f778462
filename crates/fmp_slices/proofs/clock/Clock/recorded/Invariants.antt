use Rattle.std.proofs.Common.{◌≡◌, ◌++◌, ◌∷◌, drop}
use Rattle.fmp_slices.specs.Clocks.{times_from}
use Rattle.fmp_slices.proofs.clock.Clock.recorded.Given as goal

-- the times so far, and those of the events that are left
abbrev pub invariant-loop-time : goal.invariant-loop-time
invariant-loop-time l = l.clock.times.items ++ times_from l.now (drop l.time-index l.times) ≡ 0 ∷ times_from 0 l.times
