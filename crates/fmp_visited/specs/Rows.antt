-- Rows: the bytes that tell the values of fields that differ from the first ones.
use Rattle.std.specs.Prelude.{ℕ, zero, suc, ◌+◌, ◌*◌, ◌/◌, ◌%◌, ◌<◌, ◌^◌, List, [], ◌∷◌, ◌++◌, length, take, drop, All}
use Rattle.std.specs.Prelude.{nat_eq, nat_lt, if◌then◌else◌}

-- each value is one of 32 bits
abbrev pub AreValues : List ℕ → Type 0
AreValues values = All (λ value. value < 2 ^ 32) values

-- a number in at most this many bytes, seven bits in each, the lowest first: each byte but the last has its highest bit
-- set
abbrev pub number_in : (most : ℕ) → ℕ → List ℕ
number_in zero n = []
number_in (suc most) n = if nat_lt n 128 then n ∷ [] else (n % 128 + 128) ∷ number_in most (n / 128)

-- the bytes of a value
unfoldable pub bytes_of : ℕ → List ℕ
bytes_of value = number_in 5 value

-- the mask: from the lowest bit on, a bit for each field, set if its value differs from the first one
abbrev pub mask_of : (first values : List ℕ) → ℕ
mask_of [] values = 0
mask_of (f ∷ first) [] = 0
mask_of (f ∷ first) (v ∷ values) = (if nat_eq v f then 0 else 1) + 2 * mask_of first values

-- the bytes of the values that differ from the first ones
abbrev pub changes_of : (first values : List ℕ) → List ℕ
changes_of [] values = []
changes_of (f ∷ first) [] = []
changes_of (f ∷ first) (v ∷ values) = (if nat_eq v f then [] else bytes_of v) ++ changes_of first values

-- the eight values from a place on, or as many as there are
unfoldable pub group_at : (start : ℕ) → List ℕ → List ℕ
group_at start values = take 8 (drop start values)

-- the masks of this many groups from a place on, with the bytes of the values that differ after each
abbrev pub groups_from : (count start : ℕ) → (first values : List ℕ) → List ℕ
groups_from zero start first values = []
groups_from (suc count) start first values =
    mask_of (group_at start first) (group_at start values)
    ∷ (changes_of (group_at start first) (group_at start values) ++ groups_from count (start + 8) first values)

-- the row of values
unfoldable pub row_of : (first values : List ℕ) → List ℕ
row_of first values = groups_from (length first / 8 + 1) 0 first values
