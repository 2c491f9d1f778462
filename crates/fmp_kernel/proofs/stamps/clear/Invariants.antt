use Rattle.std.proofs.Common.{◌≡◌, ◌++◌, drop, replicate}
use Rattle.fmp_kernel.proofs.stamps.clear.Given as goal

abbrev pub invariant-loop-p : goal.invariant-loop-p
invariant-loop-p l = l.counts ≡ replicate l.p 0 ++ drop l.p l.fn.counts
