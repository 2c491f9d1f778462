use Rattle.std.proofs.Common.{◌≤◌, length}
use Rattle.fmp_trials.proofs.shortening.thinned.Given as goal

abbrev pub invariant-loop-place : goal.invariant-loop-place
invariant-loop-place l = length l.left.items ≤ l.place
