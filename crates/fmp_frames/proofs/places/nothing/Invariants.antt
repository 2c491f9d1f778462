use Rattle.std.proofs.Common.{◌≡◌, None, replicate}
use Rattle.fmp_frames.proofs.places.nothing.Given as goal

abbrev pub invariant-loop-place : goal.invariant-loop-place
invariant-loop-place g l = l.xs.items ≡ replicate l._place None
