use Rattle.std.proofs.Common.{◌≡◌, ◌++◌, drop}
use Rattle.fmp_expect.specs.Watches.{lines_of_empty}
use Rattle.fmp_expect.proofs.checker.lines_of_empty.Given as goal

abbrev pub invariant-loop-watch : goal.invariant-loop-watch
invariant-loop-watch l =
    l.lines.items ++ lines_of_empty (drop l.watch-index l.watches) ≡ lines_of_empty l.watches
