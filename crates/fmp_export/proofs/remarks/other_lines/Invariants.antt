use Rattle.std.proofs.Common.{◌≡◌, length}
use Rattle.fmp_export.specs.Remarks.{other_lines}
use Rattle.fmp_export.proofs.remarks.other_lines.Given as goal

abbrev pub invariant-loop-byte : goal.invariant-loop-byte
invariant-loop-byte l = other_lines l.rest ≡ other_lines l.text

abbrev pub decreases-loop-byte : goal.decreases-loop-byte
decreases-loop-byte l = length l.rest
