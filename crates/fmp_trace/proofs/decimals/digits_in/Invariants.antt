use Rattle.std.proofs.Common.{◌≡◌, take, true, min}
use Rattle.std.specs.Str.{all_ascii_digits}
use Rattle.std.specs.Str.Parse.{digits_value}
use Rattle.fmp_trace.proofs.decimals.digits_in.Given as goal

abbrev pub invariant-loop-byte : goal.invariant-loop-byte
invariant-loop-byte l = record {
  digits : all_ascii_digits (take l.byte-index l.text) ≡ true;
  value : l.value ≡ min (digits_value 10 (take l.byte-index l.text)) 1000;
}
