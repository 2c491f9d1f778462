use Rattle.fmp_kernel.specs.Spins.{HoldNone}
use Rattle.fmp_kernel.proofs.spins.is_lock_held.Given as goal

abbrev pub invariant-loop-p : goal.invariant-loop-p
invariant-loop-p l = HoldNone l.tables.state l.p
