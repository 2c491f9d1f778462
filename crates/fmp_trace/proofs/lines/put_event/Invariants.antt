use Rattle.std.proofs.Common.{◌≡◌, ◌≤◌, ◌+◌, ◌*◌, ◌++◌, drop, take}
use Rattle.fmp_base.specs.Systems.{tables_of}
use Rattle.fmp_base.specs.Texts.{lines_text}
use Rattle.fmp_trace.proofs.lines.put_event.Given as goal

-- what is put together, and the lines that are left, are the whole text
abbrev pub invariant-loop-line : goal.invariant-loop-line
invariant-loop-line l = record {
  same : l.number ≡ l.initial.number;
  text : take l.end l.bytes ++ lines_text (tables_of l.sys) l.initial.number (drop l.line-index l.lines)
      ≡ take l.fn.end l.initial.bytes ++ lines_text (tables_of l.sys) l.initial.number l.lines;
  size : l.end ≤ l.fn.end + 127 * l.line-index;
}
