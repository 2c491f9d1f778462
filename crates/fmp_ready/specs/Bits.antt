-- Bitmaps of sixteen bits.
use Rattle.std.specs.Prelude.{◌≡◌, ℕ, ◌<◌, Option, Some, None}
use Rattle.std.specs.Int.{bit_at}

-- the lowest place whose bit is set, or none if no bit is
abbrev pub IsLowest : ℕ → Option ℕ → Type 0
IsLowest bitmap None = (i : ℕ) → bit_at bitmap i ≡ 0
IsLowest bitmap (Some k) = (k < 16) × (bit_at bitmap k ≡ 1) × ((i : ℕ) → i < k → bit_at bitmap i ≡ 0)
