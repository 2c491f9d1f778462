-- Decimal digits of a number and of the next one.
use Rattle.std.proofs.Common.{ℕ, ◌≡◌, ◌+◌, ◌<◌, ◌≤◌, ◌^◌, List, [], ◌∷◌, ◌++◌, length, take, set, get_or, decimal, ap}
use Rattle.std.proofs.Common.{sym, ◌∙◌, arith, ◌⊎◌, inl, inr, length-take-le, take-take, take_at}
use Rattle.std.specs.Prelude.{◌/◌, ◌%◌}
use Rattle.std.proofs.Math.Seq.{get_or-append_seam}
use Rattle.std.proofs.lemmas.Bool.{cases_lt}
use Rattle.std.proofs.lemmas.Fmt.{decimal_digit, decimal_step}
use Rattle.std.proofs.lemmas.List.{get_or-take, length-append, length-set, take_more_set}

-- The last digit of a number, and the digits before it, which mostly stand before that of the next number too.
record Digits (n : ℕ) : Type 0 where
  front : List ℕ
  here : decimal n ≡ front ++ ((48 + n % 10) ∷ [])
  next : n % 10 < 9 → decimal (n + 1) ≡ front ++ ((48 + (n % 10 + 1)) ∷ [])

digits_of : (n : ℕ) → n < 2 ^ 32 → (n < 9) ⊎ (9 ≤ n) → (n < 10) ⊎ (10 ≤ n) → Digits n
digits_of n small (inl h) any =
    let same : n % 10 ≡ n = omega (arith, h) in
    record {
      front = [];
      here = decimal_digit n (omega (arith, h)) ∙ ap (λ d. (48 + d) ∷ []) (sym same);
      next = λ _. decimal_digit (n + 1) (omega (arith, h)) ∙ ap (λ d. (48 + (d + 1)) ∷ []) (sym same);
    }
digits_of n small (inr h) (inl k) =
    let nine : n % 10 ≡ 9 = omega (arith, h, k) in
    record {
      front = [];
      here = decimal_digit n k ∙ ap (λ d. (48 + d) ∷ []) (omega (arith, h, k, nine));
      next = λ few. absurd (omega (arith, few, nine));
    }
digits_of n small (inr h) (inr k) =
    record {
      front = decimal (n / 10);
      here = decimal_step n k (omega (arith, small));
      next = λ few.
          let tens : (n + 1) / 10 ≡ n / 10 = omega (arith, few) in
          let ones : (n + 1) % 10 ≡ n % 10 + 1 = omega (arith, few) in
          decimal_step (n + 1) (omega (arith, k)) (omega (arith, small))
          ∙ (λ i. decimal (tens i) ++ ((48 + ones i) ∷ []));
    }

module _ (n at : ℕ) (bytes front : List ℕ) (d : ℕ) (within : at < length bytes)
    (is : take (at + 1) bytes ≡ front ++ (d ∷ [])) where
  front_length : length front ≡ at
  front_length = omega (
    arith,
    length-take-le (at + 1) bytes (omega (arith, within)),
    ap length is,
    length-append
        front (d ∷ []),
  )

  front_is : take at bytes ≡ front
  front_is = sym (take-take at (at + 1) bytes (omega arith)) ∙ ap (take at) is ∙ take_at front (d ∷ []) at front_length

  last_is : get_or bytes at 0 ≡ d
  last_is =
      sym (get_or-take (at + 1) bytes at 0 (omega arith)) ∙ ap (λ xs. get_or xs at 0) is
      ∙ ap (λ k. get_or (front ++ (d ∷ [])) k 0) (sym front_length) ∙ get_or-append_seam front d [] 0

-- where the last digit is below 9, one more makes the next number
pub counted_on : (n at : ℕ) (bytes : List ℕ) → n < 2 ^ 32 → at < length bytes → take (at + 1) bytes ≡ decimal n
    → get_or bytes at 0 < 57
    → take (at + 1) (set bytes at (get_or bytes at 0 + 1)) ≡ decimal (n + 1)
counted_on n at bytes small within is below =
    let d = digits_of n small (cases_lt n 9) (cases_lt n 10) in
    let last : get_or bytes at 0 ≡ 48 + n % 10 = last_is n at bytes d.front (48 + n % 10) within (is ∙ d.here) in
    let few : n % 10 < 9 = omega (arith, below, last) in
    take_more_set bytes at (get_or bytes at 0 + 1) within
    ∙ ap (λ xs. xs ++ ((get_or bytes at 0 + 1) ∷ [])) (front_is n at bytes d.front (48 + n % 10) within (is ∙ d.here))
    ∙ ap (λ b. d.front ++ (b ∷ [])) (omega (arith, last))
    ∙ sym (d.next few)

carried_by : (n at : ℕ) (bytes : List ℕ) → n < 2 ^ 32 → at + 1 < length bytes → take (at + 1 + 1) bytes ≡ decimal n
    → 57 ≤ get_or bytes (at + 1) 0
    → get_or bytes at 0 < 57 → (n < 10) ⊎ (10 ≤ n) → take (at + 1
    + 1) (set (set bytes at (get_or bytes at 0 + 1)) (at + 1) 48) ≡ decimal (n + 1)
carried_by n at bytes small within is nine below (inl h) =
    absurd (omega (
      arith,
      length-take-le (at + 1 + 1) bytes (omega (arith, within)),
      ap length is,
      ap length
          (decimal_digit n h),
    ))
carried_by n at bytes small within is nine below (inr h) =
    let whole : decimal n ≡ decimal (n / 10) ++ ((48 + n % 10) ∷ []) = decimal_step n h (omega (arith, small)) in
    let front : take (at + 1) bytes ≡ decimal (n / 10) = front_is n (at + 1) bytes (decimal (n / 10))
    (48 + n % 10) within (is ∙ whole) in
    let last : get_or bytes (at + 1) 0 ≡ 48 + n % 10 = last_is n (at + 1) bytes (decimal (n / 10))
    (48 + n % 10) within (is ∙ whole) in
    let full : n % 10 ≡ 9 = omega (arith, last, nine) in
    let tens : (n + 1) / 10 ≡ n / 10 + 1 = omega (arith, full) in
    let ones : (n + 1) % 10 ≡ 0 = omega (arith, full) in
    let counted = set bytes at (get_or bytes at 0 + 1) in
    take_more_set counted (at + 1) 48 (omega (arith, within, length-set bytes at (get_or bytes at 0 + 1)))
    ∙ ap (λ xs. xs ++ (48 ∷ [])) (counted_on (n / 10) at bytes (omega (arith, small))
    (omega (arith, within)) front below)
    ∙ sym (decimal_step (n + 1) (omega (arith, h)) (omega (arith, small))
    ∙ (λ i. decimal (tens i) ++ ((48 + ones i) ∷ [])))

-- where the last digit is 9 and the one before it is below 9, the next number has one more there, and a 0 behind it
pub carried_on : (n at : ℕ) (bytes : List ℕ) → n < 2 ^ 32 → at + 1 < length bytes → take (at + 1 + 1) bytes
    ≡ decimal n → 57 ≤ get_or bytes (at + 1) 0
    → get_or bytes at 0 < 57 → take (at + 1 + 1) (set (set bytes at (get_or bytes at 0 + 1)) (at + 1) 48)
    ≡ decimal (n + 1)
carried_on n at bytes small within is nine below = carried_by n at bytes small within is nine below (cases_lt n 10)
