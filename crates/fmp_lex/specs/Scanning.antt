-- Classes of bytes, runs of bytes of a class, ends of comments, and values of digits.
use Rattle.std.specs.Prelude.{◌≡◌, ℕ, ◌+◌, ◌-◌, ◌*◌, ◌<◌, ◌≤◌, ◌⊎◌, ◌==◌, ◌&&◌, ◌||◌, nat_le, Bool, true, false, not}
use Rattle.std.specs.Prelude.{if◌then◌else◌, List, [], ◌∷◌, length, slice_index}
use Rattle.fmp_base.specs.Words.{is_digit, is_word}
use Rattle.fmp_lex.specs.declared.scanning.ByteClass.{ByteClass}
use Rattle.fmp_lex.specs.declared.scanning.ByteClass.TheVariants as class

-- `0` to `9`, `A` to `F`, `a` to `f`
abbrev pub is_hex : ℕ → Bool
is_hex b = is_digit b || (nat_le 65 b && nat_le b 70) || (nat_le 97 b && nat_le b 102)

-- space, tab, carriage return, line feed
abbrev pub is_space : ℕ → Bool
is_space b = (b == 32) || (b == 9) || (b == 13) || (b == 10)

-- whether a byte is of a class
abbrev pub in_class : ByteClass → ℕ → Bool
in_class class.Word b = is_word b
in_class class.Digit b = is_digit b
in_class class.Hex b = is_hex b
in_class class.Space b = is_space b
in_class class.SameLine b = not (b == 10)

-- the bytes from i to j are the longest run from i that passes the test
pub record IsRun (test : ℕ → Bool) (text : List ℕ) (i j : ℕ) : Type 0 where
  pub from : i ≤ j
  pub within : j ≤ length text
  pub each : (k : ℕ) → i ≤ k → k < j → test (slice_index text k) ≡ true
  pub longest : j < length text → test (slice_index text j) ≡ false

-- `*/` stands at k
abbrev pub Closes : List ℕ → ℕ → Type 0
Closes text k = (k + 1 < length text) × (slice_index text k ≡ 42) × (slice_index text (k + 1) ≡ 47)

-- the first `*/` from i on stands at j
pub record IsFirstClose (text : List ℕ) (i j : ℕ) : Type 0 where
  pub from : i ≤ j
  pub closes : Closes text j
  pub first : (k : ℕ) → i ≤ k → k < j → Closes text k → ⊥

-- no `*/` stands at i or after it
abbrev pub NeverCloses : List ℕ → ℕ → Type 0
NeverCloses text i = (k : ℕ) → i ≤ k → Closes text k → ⊥

-- the value of a digit, also of a hexadecimal one
abbrev pub digit_of : ℕ → ℕ
digit_of b = if nat_le b 57 then b - 48 else (if nat_le b 70 then b - 55 else b - 87)

-- the value of digits in a base, after digits of value n
abbrev pub value_from : ℕ → ℕ → List ℕ → ℕ
value_from base n [] = n
value_from base n (b ∷ bs) = value_from base (n * base + digit_of b) bs

-- the greatest number that may be written
abbrev pub greatest : ℕ
greatest = 2147483647

-- v is n, or both are too great
abbrev pub Saturated : ℕ → ℕ → Type 0
Saturated v n = (v ≡ n) ⊎ ((greatest < v) × (greatest < n))
