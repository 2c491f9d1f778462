use Rattle.std.proofs.Common.{◌≡◌, [], drop}
use Rattle.fmp_export.specs.Remarks.{first_line}
use Rattle.fmp_export.proofs.remarks.first_line.Given as goal

abbrev pub invariant-loop-byte : goal.invariant-loop-byte
invariant-loop-byte l = first_line l.line.items (drop l.byte-index l.text) ≡ first_line [] l.text
