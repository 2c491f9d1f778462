use Rattle.std.proofs.Common.{◌≡◌, drop}
use Rattle.fmp_looking.specs.Observed.{heard_lines, heard_of}
use Rattle.fmp_looking.proofs.observing.CallsSeen.note_lines.Given as goal

-- what is known so far, and by the lines that are left
abbrev pub invariant-loop-line : goal.invariant-loop-line
invariant-loop-line l =
    heard_lines (heard_of l.self) l.position (drop l.line-index l.lines)
    ≡ heard_lines (heard_of l.initial.self) l.position l.lines
