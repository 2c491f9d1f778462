use Rattle.std.proofs.Common.{drop}
use Rattle.fmp_kernel.proofs.CountLemmas.{Rising}
use Rattle.fmp_kernel.proofs.stamps.Stamps.count_lines.Given as goal

abbrev pub invariant-loop-line : goal.invariant-loop-line
invariant-loop-line l = Rising l.fn.self l.self l.ran l.lines (drop l.line-index l.lines)
