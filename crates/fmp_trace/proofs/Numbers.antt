-- Numbers in decimal digits.
use Rattle.std.proofs.Common.{ℕ, ◌≡◌, ◌+◌, ◌-◌, ◌*◌, ◌^◌, ◌<◌, ◌≤◌, List, [], ◌∷◌, true, false, cond, Some, None}
use Rattle.std.proofs.Common.{length, take, get_or, min, nat_eq, ◌&&◌, decimal, refl, ap, sym, ◌∙◌, arith}
use Rattle.std.proofs.lemmas.Bool.Decides.{nat_tests}
use Rattle.std.proofs.lemmas.Fmt.{digits_decimal, digits_value-decimal, first_decimal}
use Rattle.std.proofs.lemmas.Int.Digits.{digits_value_more}
use Rattle.std.proofs.lemmas.List.{take_more}
use Rattle.std.proofs.lemmas.List.Recursion.{and_push, and_fails_at}
use Rattle.std.proofs.lemmas.Str.{digit_value_digit}
use Rattle.std.proofs.lemmas.Str.Parse.{IsNumeralModel, numerals_by_value, tells_all_ascii_digits, digit_from_value}
use Rattle.std.specs.Char.{is_ascii_digit, digit_value}
use Rattle.std.specs.Str.{all_ascii_digits}
use Rattle.std.specs.Str.Parse.{digits_value}
use Rattle.fmp_trace.specs.Steps.{digits_number, numeral_value}

-- digits, and one more
pub all_digits_more : (text : List ℕ) (i : ℕ) → i < length text → all_ascii_digits (take i text) ≡ true
    → is_ascii_digit (get_or text i 0) ≡ true → all_ascii_digits (take (i + 1) text) ≡ true
all_digits_more text i h a d =
    ap all_ascii_digits (take_more text i 0 h)
    ∙ and_push all_ascii_digits is_ascii_digit refl (λ _ _. refl) (take i text) (get_or text i 0)
    ∙ (ap (λ t. t && is_ascii_digit (get_or text i 0)) a ∙ d)

-- a capped value, and one more digit
pub capped_more : (v n b : ℕ) → v ≡ min n 1000 → digit_value b < 10 → min (v * 10 + (b - 48)) 1000
    ≡ min (n * 10 + digit_value b) 1000
capped_more v n b e h = let d = digit_value_digit b (digit_from_value b h) in omega (arith, d, e)

pub value_more : (text : List ℕ) (i v : ℕ) → i < length text → v ≡ min (digits_value 10 (take i text)) 1000
    → digit_value (get_or text i 0) < 10
    → min (v * 10 + (get_or text i 0 - 48)) 1000 ≡ min (digits_value 10 (take (i + 1) text)) 1000
value_more text i v h e d =
    capped_more v (digits_value 10 (take i text)) (get_or text i 0) e d
    ∙ ap (λ n. min n 1000) (sym (digits_value_more 10 text i h))

-- a byte that is no digit
pub not_digits : (text : List ℕ) (i : ℕ) → i < length text → is_ascii_digit (get_or text i 0) ≡ false
    → digits_number text ≡ None
not_digits text i h d =
    ap (λ t. cond t (Some (digits_value 10 text)) None) (and_fails_at all_ascii_digits is_ascii_digit refl
    (λ _ _. refl) text i 0 h d)

-- digits alone
pub are_digits : (text : List ℕ) → all_ascii_digits text ≡ true → digits_number text ≡ Some (digits_value 10 text)
are_digits text a = ap (λ t. cond t (Some (digits_value 10 text)) None) a

own : IsNumeralModel (λ ds. all_ascii_digits ds ≡ true) (digits_value 10)
own = numerals_by_value _ tells_all_ascii_digits

pub decimal_digits : (n : ℕ) → n < 2 ^ 64 → all_ascii_digits (decimal n) ≡ true
decimal_digits n h = digits_decimal own n h

-- digits of which the first is not 0
numeral_value-digits : (text : List ℕ) → 48 < get_or text 0 0 → all_ascii_digits text ≡ true → numeral_value text
    ≡ Some (digits_value 10 text)
numeral_value-digits [] h a = absurd (omega arith)
numeral_value-digits (d ∷ []) h a = are_digits (d ∷ []) a
numeral_value-digits (d ∷ e ∷ ds) h a =
    let first : nat_eq d 48 ≡ false = grind (arith, nat_tests) in
    ap (λ t. cond t None (digits_number (d ∷ e ∷ ds))) first ∙ are_digits (d ∷ e ∷ ds) a

-- a positive number is read as it is written
pub numeral_value-decimal : (n : ℕ) → 1 ≤ n → n < 2 ^ 64 → numeral_value (decimal n) ≡ Some n
numeral_value-decimal n low high =
    numeral_value-digits (decimal n) (first_decimal n (omega arith) high) (decimal_digits n high)
    ∙ ap (λ v. Some v) (digits_value-decimal own n high)
