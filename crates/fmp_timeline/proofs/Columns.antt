-- Products that stop at the end of a range.
use Rattle.std.proofs.Common.{◌≡◌, ℕ, zero, suc, ◌*◌, ◌<◌, ◌≤◌, min, inl, inr, refl, arith, sym, ap, ◌∙◌}
use Rattle.std.proofs.Math.Nat.{le-mul_of_pos_right, mul_comm, mul_assoc}
use Rattle.std.proofs.lemmas.Bool.{cases_lt}

-- from two products that reach the end
both_reach : (m x y : ℕ) → m ≤ x → m ≤ y → min x m ≡ min y m
both_reach m x y p q = omega arith

grows : (x y : ℕ) → 0 < y → x ≤ x * y
grows x y some = le-mul_of_pos_right x some

first_reaches : (m a n : ℕ) → 0 < m → m ≤ a → 0 < n → min (min a m * min n m) m ≡ min (a * n) m
first_reaches m a n room reach some =
    let whole : min a m ≡ m = omega arith in
    let left : m ≤ m * min n m = grows m (min n m) (omega arith) in
    let right : a ≤ a * n = grows a n some in
    rw whole (both_reach m (m * min n m) (a * n) left (omega arith))

second_reaches : (m a n : ℕ) → 0 < m → 0 < a → m ≤ n → min (min a m * min n m) m ≡ min (a * n) m
second_reaches m a n room some reach =
    rw (mul_comm (min a m) (min n m), mul_comm a n) (first_reaches m n a room reach some)

none_reaches : (m a n : ℕ) → a ≤ m → n ≤ m → min (min a m * min n m) m ≡ min (a * n) m
none_reaches m a n p q =
    let x : min a m ≡ a = omega arith in let y : min n m ≡ n = omega arith in rw (x, y) refl

capped_some : (m a n : ℕ) → 0 < m → 0 < a → 0 < n → min (min a m * min n m) m ≡ min (a * n) m
capped_some m a n room p q =
    elim (cases_lt a m) [
      | inl below ↦ elim (cases_lt n m) [
        | inl small ↦ none_reaches m a n (omega arith) (omega arith)
        | inr reach ↦ second_reaches m a n room p reach
      ]
      | inr reach ↦ first_reaches m a n room reach q
    ]

-- a product stops at the end, whether or not its factors do
pub capped : (m a n : ℕ) → 0 < m → min (min a m * min n m) m ≡ min (a * n) m
capped m zero n room = let none : min 0 m ≡ 0 = omega arith in rw none (omega arith)
capped m (suc a) zero room = let none : min 0 m ≡ 0 = omega arith in rw none (omega arith)
capped m (suc a) (suc n) room = capped_some m (suc a) (suc n) room (omega arith) (omega arith)

-- the same of pixels, of which each has ten tenths
pub capped_pixels : (m c n : ℕ) → 0 < m → min (min (c * 10) m * min n m) m ≡ min (c * n * 10) m
capped_pixels m c n room =
    let same : c * n * 10 ≡ c * 10 * n = mul_assoc c n 10 ∙ ap (λ x. c * x) (mul_comm n 10) ∙ sym (mul_assoc c 10 n) in
    rw same (capped m (c * 10) n room)
