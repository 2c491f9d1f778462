use mir.Syntax.{w16}
use Rattle.std.proofs.Common.{arith}
use Rattle.std.proofs.lemmas.Nat.Bits.{bit_at-trailing_zeros}
use Rattle.fmp_ready.proofs.bits.lowest_bit.Goals as goal

pub returns-else-bitmap-eq0 : goal.returns-else-bitmap-eq0
returns-else-bitmap-eq0 c = bit_at-trailing_zeros w16 c.args.bitmap (omega arith) (omega arith)
