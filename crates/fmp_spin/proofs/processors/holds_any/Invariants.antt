use Rattle.std.proofs.Common.{◌≡◌, drop}
use Rattle.fmp_base.specs.ProcessorCalls.{is_held}
use Rattle.fmp_spin.proofs.processors.holds_any.Given as goal

-- the processors that are left decide
abbrev pub invariant-loop-x : goal.invariant-loop-x
invariant-loop-x l = is_held l.l (drop l.x-index l.table) ≡ is_held l.l l.table
