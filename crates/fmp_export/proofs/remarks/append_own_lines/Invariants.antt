use Rattle.std.proofs.Common.{◌≡◌, ◌++◌, [], drop}
use Rattle.fmp_export.specs.Remarks.{own_lines}
use Rattle.fmp_export.proofs.remarks.append_own_lines.Given as goal

abbrev pub invariant-loop-byte : goal.invariant-loop-byte
invariant-loop-byte l =
    l.out.items ++ own_lines l.margin l.line.items (drop l.byte-index l.lines)
    ≡ l.initial.out.items ++ own_lines l.margin [] l.lines
