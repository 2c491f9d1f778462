-- Values of digits.
use Rattle.std.proofs.Common.{◌≡◌, ℕ, ◌+◌, ◌*◌, ◌<◌, ◌≤◌, ◌⊎◌, inl, inr, List, [], ◌∷◌, ◌++◌, refl, arith}
use Rattle.fmp_lex.specs.Scanning.{value_from, digit_of, greatest, Saturated}

pub value_from_push : (base n : ℕ) (bs : List ℕ) (b : ℕ) → value_from base n (bs ++ b ∷ [])
    ≡ value_from base n bs * base + digit_of b
value_from_push base n [] b = refl
value_from_push base n (c ∷ bs) b = value_from_push base (n * base + digit_of c) bs b

pub product_below : (v base : ℕ) → (base ≡ 10) ⊎ (base ≡ 16) → v ≤ 2147483647 → v * base ≤ 34359738352
product_below v base (inl e) h = rw e (omega arith)
product_below v base (inr e) h = rw e (omega arith)

pub product_above : (v base : ℕ) → (base ≡ 10) ⊎ (base ≡ 16) → v ≤ v * base
product_above v base (inl e) = rw e (omega arith)
product_above v base (inr e) = rw e (omega arith)

pub saturated_step : (v n base d : ℕ) → v ≤ greatest → Saturated v n → Saturated (v * base + d) (n * base + d)
saturated_step v n base d low (inl e) = inl (rw e refl)
saturated_step v n base d low (inr h) = absurd (omega arith)

pub saturated_stay : (v n base d : ℕ) → (base ≡ 10) ⊎ (base ≡ 16) → greatest < v → Saturated v n
    → Saturated v (n * base + d)
saturated_stay v n base d kind high (inl e) = let p = product_above n base kind in inr (high, omega arith)
saturated_stay v n base d kind high (inr h) = let p = product_above n base kind in inr (high, omega arith)
