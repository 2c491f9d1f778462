use Rattle.std.proofs.Common.{take}
use Rattle.fmp_witness.specs.Followed.{IsFollowed}
use Rattle.fmp_witness.proofs.replaying.follow.Given as goal

abbrev pub invariant-loop-e : goal.invariant-loop-e
invariant-loop-e l = IsFollowed l.fn.image l.fn.n (take l.e-index l.steps) l.kernel
