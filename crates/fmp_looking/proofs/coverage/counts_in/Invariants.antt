use Rattle.std.proofs.Common.{◌≡◌, ◌++◌, drop, map}
use Rattle.fmp_looking.specs.Coverage.{count_of}
use Rattle.fmp_looking.proofs.coverage.counts_in.Given as goal

abbrev pub invariant-loop-line : goal.invariant-loop-line
invariant-loop-line l =
    l.counts.items ++ map (count_of l.made) (drop l.line-index l.lines) ≡ map (count_of l.made) l.lines
