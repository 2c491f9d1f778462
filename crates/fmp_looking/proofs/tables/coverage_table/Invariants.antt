use Rattle.std.proofs.Common.{◌≡◌, ◌++◌, drop}
use Rattle.fmp_looking.specs.Tables.{table_text}
use Rattle.fmp_looking.specs.Ways.{times_in}
use Rattle.fmp_looking.proofs.tables.coverage_table.Given as goal

abbrev pub invariant-loop-mark : goal.invariant-loop-mark
invariant-loop-mark l =
    l.out.items ++ table_text l.file l.calls (times_in l.ways) (drop l.mark-index l.marks)
    ≡ table_text l.file l.calls (times_in l.ways) l.marks
