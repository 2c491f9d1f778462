use Rattle.std.proofs.Common.{◌<◌, ℕ}
use Rattle.fmp_reachable.specs.Tested.{IsSoundOn}
use Rattle.fmp_reachable.proofs.soundness.are_sound_processors.Given as goal

abbrev pub invariant-loop-p : goal.invariant-loop-p
invariant-loop-p l = (q : ℕ) → q < l.p → IsSoundOn l.kernel.system l.kernel.body l.kernel.world q
