use Rattle.std.proofs.Common.{◌≡◌, ℕ, ◌+◌, ◌*◌, ◌<◌}
use Rattle.fmp_spin.specs.Bits.{bit_in}
use Rattle.fmp_spin.proofs.bits.first_bit.Given as goal

-- no bit of the words so far is set
abbrev pub invariant-loop-w : goal.invariant-loop-w
invariant-loop-w l = (i : ℕ) → i < l.w * 64 → bit_in l.words (l.from * 64 + i) ≡ 0
