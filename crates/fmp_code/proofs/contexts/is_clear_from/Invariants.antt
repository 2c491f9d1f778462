use Rattle.std.proofs.Common.{ℕ, ◌+◌, ◌≡◌, take}
use Rattle.fmp_code.proofs.Zeros.{marks}
use Rattle.fmp_code.proofs.contexts.is_clear_from.Given as goal

abbrev pub invariant-loop-k : goal.invariant-loop-k
invariant-loop-k l = l.zeros + marks (take l.k l.operands) ≡ l.k

abbrev pub invariant-loop-k-2 : goal.invariant-loop-k-2
invariant-loop-k-2 l = l.zeros + marks l.operands ≡ 64 + marks (take l.k l.operands)
