-- Numbers in rows.
use Rattle.std.proofs.Common.{◌≡◌, ◌<◌, ◌≤◌, ◌+◌, ◌-◌, ◌/◌, ◌%◌, ◌^◌, ℕ, zero, suc, Bool, true, false, cond, nat_lt}
use Rattle.std.proofs.Common.{List, [], ◌∷◌, ◌++◌, refl, sym, ap, ◌∙◌, append_assoc, arith, lit<}
use Rattle.std.proofs.Math.Nat.{pow-suc}
use Rattle.std.proofs.lemmas.Bool.{ltb-true, lt-ltb, le-ltb}
use Rattle.std.proofs.lemmas.Nat.{div_below}
use Rattle.fmp_visited.specs.Rows.{bytes_of, number_in}

-- the last byte
pub number-last : (most n : ℕ) → n < 128 → number_in (suc most) n ≡ n ∷ []
number-last most n lt = ap (λ (b : Bool). cond b (n ∷ []) ((n % 128 + 128) ∷ number_in most (n / 128)))
    (lt-ltb n 128 lt)

-- one of the others
pub number-more : (most n : ℕ) → 128 ≤ n → number_in (suc most) n ≡ (n % 128 + 128) ∷ number_in most (n / 128)
number-more most n le = ap (λ (b : Bool). cond b (n ∷ []) ((n % 128 + 128) ∷ number_in most (n / 128)))
    (le-ltb n 128 le)

shorter : (most n : ℕ) → n < 128 ^ suc most → n / 128 < 128 ^ most
shorter most n lt = div_below n 128 (128 ^ most) (lit< tt) (omega (arith, lt, pow-suc 128 most))

-- which number bytes begin with, and what stands behind it
number-told : (most a b : ℕ) (x y : List ℕ) → a < 128 ^ most → b < 128 ^ most → number_in most a ++ x
    ≡ number_in most b ++ y
    → (a ≡ b) × (x ≡ y)
number-told zero a b x y p q e = (omega arith, e)
number-told (suc most) a b x y p q e =
    by_tests (nat_lt a 128) (nat_lt b 128) refl refl e
    (number-told most (a / 128) (b / 128) x y (shorter most a p) (shorter most b q)) where
      by_tests : (s t : Bool) → nat_lt a 128 ≡ s → nat_lt b 128 ≡ t
          → cond s (a ∷ []) ((a % 128 + 128) ∷ number_in most (a / 128)) ++ x
          ≡ cond t (b ∷ []) ((b % 128 + 128) ∷ number_in most (b / 128)) ++ y
          → (number_in most (a / 128) ++ x ≡ number_in most (b / 128) ++ y → (a / 128 ≡ b / 128) × (x ≡ y))
          → (a ≡ b) × (x ≡ y)
      by_tests true true s t k rest = (cc, cc)
      by_tests true false s t k rest =
          let head : a ≡ b % 128 + 128 = cc in
          absurd (omega (arith, head, ltb-true a 128 s))
      by_tests false true s t k rest =
          let head : a % 128 + 128 ≡ b = cc in
          absurd (omega (arith, head, ltb-true b 128 t))
      by_tests false false s t k rest =
          let head : a % 128 + 128 ≡ b % 128 + 128 = cc in
          let tail : number_in most (a / 128) ++ x ≡ number_in most (b / 128) ++ y = cc in
          let both = rest tail in
          let high : a / 128 ≡ b / 128 = both.0 in
          (omega (arith, head, high), both.1)

pub bytes-told : (a b : ℕ) (x y : List ℕ) → a < 2 ^ 32 → b < 2 ^ 32 → bytes_of a ++ x ≡ bytes_of b ++ y → (a ≡ b)
    × (x ≡ y)
unfolding bytes_of
bytes-told a b x y p q e = number-told 5 a b x y (omega arith) (omega arith) e

-- ---- how a number is written

pub bytes-last : (i n : ℕ) → i < 5 → n < 128 → number_in (5 - i) n ≡ n ∷ []
bytes-last i n lt small =
    let left : 5 - i ≡ suc (4 - i) = omega arith in
    ap (λ (k : ℕ). number_in k n) left ∙ number-last (4 - i) n small

pub bytes-more : (i n : ℕ) → i < 5 → 128 ≤ n → number_in (5 - i) n ≡ (n % 128 + 128) ∷ number_in (5 - (i + 1)) (n / 128)
bytes-more i n lt great =
    let left : 5 - i ≡ suc (5 - (i + 1)) = omega arith in
    ap (λ (k : ℕ). number_in k n) left ∙ number-more (5 - (i + 1)) n great

-- a number that was written as far as its last byte
pub written-last : (row front : List ℕ) (i n : ℕ) (all : List ℕ) → i < 5 → n < 128 → row ++ number_in (5 - i) n
    ≡ front ++ all
    → row ++ n ∷ [] ≡ front ++ all
written-last row front i n all lt small e = ap (λ (bytes : List ℕ). row ++ bytes) (sym (bytes-last i n lt small)) ∙ e

-- a number of which one more byte is written
pub written-more : (row front : List ℕ) (i n : ℕ) (all : List ℕ) → i < 5 → 128 ≤ n → row ++ number_in (5 - i) n
    ≡ front ++ all
    → (row ++ (n % 128 + 128) ∷ []) ++ number_in (5 - (i + 1)) (n / 128) ≡ front ++ all
written-more row front i n all lt great e =
    append_assoc row ((n % 128 + 128) ∷ []) (number_in (5 - (i + 1)) (n / 128))
    ∙ (ap (λ (bytes : List ℕ). row ++ bytes) (sym (bytes-more i n lt great)) ∙ e)

-- a number of one byte
pub bytes_small : (n : ℕ) → n < 128 → bytes_of n ≡ n ∷ []
unfolding bytes_of
bytes_small n lt = bytes-last 0 n (omega arith) lt
