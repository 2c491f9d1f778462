-- The digits of numbers below 10000.
use Rattle.std.proofs.Common.{ℕ, ◌≡◌, ◌+◌, ◌<◌, ◌≤◌, List, [], ◌∷◌, ◌++◌, decimal, ap, ◌∙◌, arith}
use Rattle.std.specs.Prelude.{◌/◌, ◌%◌}
use Rattle.std.proofs.lemmas.Fmt.{decimal_digit, decimal_step}

-- a number of three digits
pub decimal_hundreds : (n : ℕ) → 100 ≤ n → n < 1000 → decimal n ≡ (48 + n / 100) ∷ (48 + n / 10 % 10) ∷ (48 + n % 10)
    ∷ []
decimal_hundreds n least most =
    let hundreds : n / 10 / 10 ≡ n / 100 = omega arith in
    decimal_step n (omega (arith, least)) (omega (arith, most))
    ∙ ap (λ xs. xs ++ ((48 + n % 10) ∷ []))
    (decimal_step (n / 10) (omega (arith, least)) (omega (arith, most))
    ∙ ap (λ xs. xs ++ ((48 + n / 10 % 10) ∷ [])) (decimal_digit (n / 10 / 10) (omega (arith, most))))
    ∙ ap (λ d. (48 + d) ∷ (48 + n / 10 % 10) ∷ (48 + n % 10) ∷ []) hundreds

-- a number of four digits
pub decimal_thousands : (n : ℕ) → 1000 ≤ n → n < 10000
    → decimal n ≡ (48 + n / 1000) ∷ (48 + n / 100 % 10) ∷ (48 + n / 10 % 10) ∷ (48 + n % 10) ∷ []
decimal_thousands n least most =
    let thousands : n / 10 / 100 ≡ n / 1000 = omega arith in
    let hundreds : n / 10 / 10 % 10 ≡ n / 100 % 10 = omega arith in
    decimal_step n (omega (arith, least)) (omega (arith, most))
    ∙ ap (λ (xs : List ℕ). xs ++ ((48 + n % 10) ∷ [])) (decimal_hundreds (n / 10) (omega (arith, least))
    (omega (arith, most)))
    ∙ (λ i. (48 + thousands i) ∷ (48 + hundreds i) ∷ (48 + n / 10 % 10) ∷ (48 + n % 10) ∷ [])
