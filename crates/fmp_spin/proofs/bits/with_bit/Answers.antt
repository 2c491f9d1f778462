use mir.Syntax.{w64}
use Rattle.std.proofs.lemmas.Nat.Bits.{bit_at_set_same, bit_at_set_other, bit_at_clear_same, bit_at_clear_other}
use Rattle.fmp_spin.proofs.bits.with_bit.Goals as goal

pub returns-then-set-clause-changed : goal.returns-then-set-clause-changed
returns-then-set-clause-changed c = rw c.if-set.true (bit_at_set_same w64 c.args.word c.args.place c.requires)

pub returns-then-set-clause-others : goal.returns-then-set-clause-others
returns-then-set-clause-others c = λ i below other. bit_at_set_other w64 c.args.word c.args.place c.requires i other

pub returns-else-set-clause-changed : goal.returns-else-set-clause-changed
returns-else-set-clause-changed c = rw c.if-set.false (bit_at_clear_same w64 c.args.word c.args.place c.requires)

pub returns-else-set-clause-others : goal.returns-else-set-clause-others
returns-else-set-clause-others c = bit_at_clear_other w64 c.args.word c.args.place c.requires
