-- How a word begins.
use Rattle.std.specs.Prelude.{ℕ, List, Option, Some, None, slice_get, Bool, false, nat_le, ◌&&◌}

abbrev pub is_from : Option ℕ → (low high : ℕ) → Bool
is_from None low high = false
is_from (Some b) low high = nat_le low b && nat_le b high

-- whether the first byte is one from low to high
abbrev pub begins : List ℕ → (low high : ℕ) → Bool
begins word low high = is_from (slice_get word 0) low high
