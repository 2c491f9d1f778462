-- How long the texts of the tables are.
use Rattle.std.proofs.Common.{ℕ, ◌<◌, ◌≤◌, ◌^◌, arith, length, rules}
use Rattle.std.specs.Prelude.{decimal}
use Rattle.std.proofs.lemmas.Fmt.{length-decimal-le}
use Rattle.fmp_base.specs.declared.calls.Call.{Call}
use Rattle.fmp_base.specs.declared.calls.Call.TheVariants as call
use Rattle.fmp_base.specs.Services.{arguments_of}

-- a service call has at most four arguments
pub few_arguments : (c : Call) → length (arguments_of c) ≤ 4
few_arguments (call.Put value) = search rules
few_arguments _ = search rules

-- a number has at most ten digits
pub short_number : (n : ℕ) → n < 2 ^ 32 → length (decimal n) ≤ 10
short_number n h = length-decimal-le 10 n (omega arith) (omega (arith, h)) (omega (arith, h))

-- and at most three where it is at most 256
pub short_byte : (n : ℕ) → n ≤ 256 → length (decimal n) ≤ 3
short_byte n h = length-decimal-le 3 n (omega arith) (omega (arith, h)) (omega (arith, h))
