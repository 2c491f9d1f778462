use Rattle.std.proofs.Common.{◌≡◌, drop}
use Rattle.std.specs.List.{list_any}
use Rattle.fmp_timeline.specs.Marks.{line_moves}
use Rattle.fmp_timeline.proofs.marks.moves.Given as goal

abbrev pub invariant-loop-line : goal.invariant-loop-line
invariant-loop-line l =
    list_any (line_moves l.place) (drop l.line-index l.lines) ≡ list_any (line_moves l.place) l.lines
