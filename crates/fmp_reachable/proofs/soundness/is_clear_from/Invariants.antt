use Rattle.std.proofs.Common.{ℕ, ◌+◌, ◌≡◌, take}
use Rattle.fmp_reachable.proofs.Zeros.{marks}
use Rattle.fmp_reachable.proofs.soundness.is_clear_from.Given as goal

abbrev pub invariant-loop-k : goal.invariant-loop-k
invariant-loop-k l = l.zeros + marks (take l.k l.locals) ≡ l.k

abbrev pub invariant-loop-k-2 : goal.invariant-loop-k-2
invariant-loop-k-2 l = l.zeros + marks l.locals ≡ 64 + marks (take l.k l.locals)
