use Rattle.std.proofs.Common.{◌≡◌, drop}
use Rattle.fmp_why.specs.HistoryTables.{lines_noted, tables}
use Rattle.fmp_why.proofs.history.History.note_lines.Given as goal

abbrev pub invariant-loop-line : goal.invariant-loop-line
invariant-loop-line l =
    lines_noted l.event (drop l.line-index l.lines) (tables l.self) ≡ lines_noted l.event l.lines (tables l.fn.self)
