use Rattle.std.proofs.Common.{take}
use Rattle.fmp_lex.specs.Scanning.{Saturated, value_from}
use Rattle.fmp_lex.proofs.scanning.value_of.Given as goal

abbrev pub invariant-loop-b : goal.invariant-loop-b
invariant-loop-b l = Saturated l.value (value_from l.base 0 (take l.b-index l.digits))
