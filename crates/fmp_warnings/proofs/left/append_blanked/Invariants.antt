use Rattle.std.proofs.Common.{◌≡◌, ◌++◌, map, take}
use Rattle.fmp_warnings.specs.Further.{blanked}
use Rattle.fmp_warnings.proofs.left.append_blanked.Given as goal

abbrev pub invariant-loop-byte : goal.invariant-loop-byte
invariant-loop-byte l = l.out.items ≡ l.initial.out.items ++ map blanked (take l.byte-index l.text)
