use mir.Syntax.{w16}
use Rattle.std.proofs.lemmas.Nat.Bits.{bit_at_set_same, bit_at_set_other}
use Rattle.fmp_ready.proofs.bits.with_bit.Goals as goal

pub returns-clause-set : goal.returns-clause-set
returns-clause-set c = bit_at_set_same w16 c.args.bitmap c.args.place c.requires

pub returns-clause-others : goal.returns-clause-others
returns-clause-others c = bit_at_set_other w16 c.args.bitmap c.args.place c.requires
