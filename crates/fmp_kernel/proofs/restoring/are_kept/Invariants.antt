use Rattle.std.proofs.Common.{ℕ, ◌<◌}
use Rattle.fmp_kernel.specs.Restored.{IsKeptOf}
use Rattle.fmp_kernel.proofs.restoring.are_kept.Given as goal

abbrev pub invariant-loop-t : goal.invariant-loop-t
invariant-loop-t g l = (u : ℕ) → u < l.t → IsKeptOf l.tables.state l.contexts u
