use Rattle.std.proofs.Common.{◌≡◌, ◌++◌, drop}
use Rattle.fmp_base.specs.Systems.{tables_of}
use Rattle.fmp_named.specs.Lines.{named_lines}
use Rattle.fmp_named.proofs.lines.append_lines.Given as goal

abbrev pub invariant-loop-line : goal.invariant-loop-line
invariant-loop-line l =
    l.out.items ++ named_lines (tables_of l.sys) l.number (drop l.line-index l.lines)
    ≡ l.initial.out.items ++ named_lines (tables_of l.sys) l.number l.lines
