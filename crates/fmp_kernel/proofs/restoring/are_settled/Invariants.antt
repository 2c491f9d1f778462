use Rattle.std.proofs.Common.{ℕ, ◌<◌}
use Rattle.fmp_kernel.specs.Restored.{IsSettledOn}
use Rattle.fmp_kernel.proofs.restoring.are_settled.Given as goal

abbrev pub invariant-loop-p : goal.invariant-loop-p
invariant-loop-p g l = (q : ℕ) → q < l.p → IsSettledOn l.tables.system l.tables.state l.contexts q
