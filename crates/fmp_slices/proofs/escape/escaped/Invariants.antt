use Rattle.std.proofs.Common.{◌≡◌, take}
use Rattle.std.specs.Prelude.{flat_map}
use Rattle.fmp_slices.specs.Escaped.{escaped_byte}
use Rattle.fmp_slices.proofs.escape.escaped.Given as goal

abbrev pub invariant-loop-byte : goal.invariant-loop-byte
invariant-loop-byte l = l.text.items ≡ flat_map escaped_byte (take l.byte-index l.json)
