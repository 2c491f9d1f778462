use Rattle.std.proofs.Common.{◌≡◌, ◌≤◌, ◌+◌, ◌*◌, ◌++◌, drop, take, vec_len}
use Rattle.std.specs.Prelude.{vec_capacity}
use Rattle.fmp_base.specs.Systems.{tables_of}
use Rattle.fmp_base.specs.Texts.{lines_text}
use Rattle.fmp_trace.specs.Fronts.{Begins}
use Rattle.fmp_trace.proofs.lines.put_lines.Given as goal

-- what is appended so far, what is put together, and the lines that are left are the whole text
abbrev pub invariant-loop-line : goal.invariant-loop-line
invariant-loop-line l = record {
  same : l.number ≡ l.initial.number;
  text : l.out.items ++ (take l.end l.bytes ++ lines_text (tables_of l.sys) l.initial.number
      (drop l.line-index l.lines))
      ≡ l.initial.out.items ++ (take l.fn.end l.initial.bytes ++ lines_text (tables_of l.sys) l.initial.number l.lines);
  kept : Begins l.initial.out.items l.out.items;
  room : l.end + 179 ≤ 1024;
  size : vec_len l.out + l.end ≤ vec_len l.initial.out + l.fn.end + 127 * l.line-index;
  capacity : vec_capacity l.initial.out ≤ vec_capacity l.out;
}
