use Rattle.std.proofs.Common.{◌≡◌, ◌++◌, drop}
use Rattle.fmp_looking.specs.Coverage.{data_lines}
use Rattle.fmp_looking.proofs.lcov.append_all.Given as goal

abbrev pub invariant-loop-count : goal.invariant-loop-count
invariant-loop-count l =
    l.out.items ++ data_lines (drop l.count-index l.counts) ≡ l.initial.out.items ++ data_lines l.counts
