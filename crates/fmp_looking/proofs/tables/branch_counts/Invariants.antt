use Rattle.std.proofs.Common.{◌≡◌, ◌++◌, drop}
use Rattle.fmp_looking.specs.Tables.{branch_counts}
use Rattle.fmp_looking.specs.Ways.{times_in}
use Rattle.fmp_looking.proofs.tables.branch_counts.Given as goal

abbrev pub invariant-loop-mark : goal.invariant-loop-mark
invariant-loop-mark l =
    l.counts.items ++ branch_counts (times_in l.ways) (drop l.mark-index l.marks)
    ≡ branch_counts (times_in l.ways) l.marks
