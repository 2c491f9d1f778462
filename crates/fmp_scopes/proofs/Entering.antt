-- What a stack holds.
use Rattle.std.proofs.Common.{◌≡◌, ℕ, ◌*◌, ◌<◌, min, nat_le, arith}
use Rattle.std.proofs.lemmas.Bool.Decides.{nat_tests}

-- a stack of 32 bits is too small for 2^30 operands, and for more
pub holds_some :
    (stack depth needed : ℕ) → stack < 4294967296 → depth ≡ min needed 1073741824 →
    nat_le (4 * depth) stack ≡ nat_le (4 * needed) stack
holds_some stack depth needed h e = grind (arith, nat_tests)
