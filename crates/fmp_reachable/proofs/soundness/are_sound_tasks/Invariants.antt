use Rattle.std.proofs.Common.{◌<◌, ℕ}
use Rattle.fmp_reachable.specs.Tested.{IsSoundTask}
use Rattle.fmp_reachable.proofs.soundness.are_sound_tasks.Given as goal

abbrev pub invariant-loop-t : goal.invariant-loop-t
invariant-loop-t l = (u : ℕ) → u < l.t → IsSoundTask l.kernel.system l.kernel.body l.kernel.world u
