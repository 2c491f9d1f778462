use Rattle.std.proofs.Common.{◌≡◌}
use Rattle.fmp_looking.specs.Coverage.{lines_in}
use Rattle.fmp_looking.proofs.coverage.call_lines.Given as goal

abbrev pub invariant-loop-at : goal.invariant-loop-at
invariant-loop-at l = l.lines.items ≡ lines_in l.tokens l.at
