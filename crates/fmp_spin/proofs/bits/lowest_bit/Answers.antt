use mir.Syntax.{w64}
use Rattle.std.proofs.Common.{arith}
use Rattle.std.proofs.lemmas.Nat.Bits.{bit_at-trailing_zeros}
use Rattle.fmp_spin.proofs.bits.lowest_bit.Goals as goal

pub returns-else-word-eq0 : goal.returns-else-word-eq0
returns-else-word-eq0 c = bit_at-trailing_zeros w64 c.args.word (omega arith) (omega arith)
