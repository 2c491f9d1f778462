use Rattle.std.proofs.Common.{inl, refl, arith}
use Rattle.std.proofs.lemmas.Grind.{common_steps}
use Rattle.fmp_lex.proofs.cutting.next_piece.Goals as goal

pub returns-in-Zero-clause-piece : goal.returns-in-Zero-clause-piece
returns-in-Zero-clause-piece c = grind (arith, common_steps, c.number.ensures.piece 0 (inl refl))

pub returns-in-Zero-clause-named : goal.returns-in-Zero-clause-named
returns-in-Zero-clause-named c = c.number.ensures.named

pub returns-in-Hex-clause-named : goal.returns-in-Hex-clause-named
returns-in-Hex-clause-named c = c.hex_number.ensures.named

pub returns-in-Decimal-clause-named : goal.returns-in-Decimal-clause-named
returns-in-Decimal-clause-named c = c.number-in-Decimal.ensures.named

pub returns-in-Other-clause-named : goal.returns-in-Other-clause-named
returns-in-Other-clause-named c = c.sign.ensures.named c.args.text.now
