use Rattle.std.proofs.Common.{◌≡◌, ◌++◌, drop}
use Rattle.fmp_base.specs.Systems.{tables_of}
use Rattle.fmp_named.specs.Records.{line_records}
use Rattle.fmp_named.proofs.records.append_records.Given as goal

abbrev pub invariant-loop-line : goal.invariant-loop-line
invariant-loop-line l =
    l.out.items ++ line_records (tables_of l.sys) l.number (drop l.line-index l.lines)
    ≡ l.initial.out.items ++ line_records (tables_of l.sys) l.number l.lines
