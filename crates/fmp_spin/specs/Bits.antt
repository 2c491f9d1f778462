-- Bitmaps, kept in words of 64.
use Rattle.std.specs.Prelude.{◌≡◌, ℕ, ◌/◌, ◌%◌, ◌<◌, List, Option, Some, None, Bool, true, false, slice_index_or}
use Rattle.std.specs.Int.{bit_at}

-- the bit at a place, over all words
abbrev pub bit_in : List ℕ → ℕ → ℕ
bit_in words k = bit_at (slice_index_or words (k / 64) 0) (k % 64)

abbrev pub as_bit : Bool → ℕ
as_bit false = 0
as_bit true = 1

-- of these bits the first that is set, or none if no bit is
abbrev pub IsFirst : (ℕ → ℕ) → ℕ → Option ℕ → Type 0
IsFirst bits n None = (i : ℕ) → i < n → bits i ≡ 0
IsFirst bits n (Some k) = (k < n) × (bits k ≡ 1) × ((i : ℕ) → i < k → bits i ≡ 0)
