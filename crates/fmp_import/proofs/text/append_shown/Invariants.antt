use Rattle.std.proofs.Common.{◌≡◌, ◌++◌, drop, map}
use Rattle.fmp_import.specs.Written.{shown_byte}
use Rattle.fmp_import.proofs.text.append_shown.Given as goal

abbrev pub invariant-loop-byte : goal.invariant-loop-byte
invariant-loop-byte l =
    l.out.items ++ map shown_byte (drop l.byte-index l.bytes) ≡ l.initial.out.items ++ map shown_byte l.bytes
