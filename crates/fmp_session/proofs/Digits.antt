-- Numbers in decimal digits.
use Rattle.std.proofs.Common.{ℕ, ◌≡◌, ◌+◌, ◌-◌, ◌*◌, ◌^◌, ◌<◌, ◌≤◌, List, [], ◌∷◌, true, false, cond, Some, None}
use Rattle.std.proofs.Common.{length, take, get_or, min, nat_eq, ◌&&◌, decimal, refl, ap, sym, ◌∙◌, arith}
use Rattle.std.proofs.lemmas.Bool.Decides.{nat_tests}
use Rattle.std.proofs.lemmas.Fmt.{digits_decimal, digits_value-decimal, first_decimal}
use Rattle.std.proofs.lemmas.Int.Digits.{digits_value_more}
use Rattle.std.proofs.lemmas.List.{take_more}
use Rattle.std.proofs.lemmas.List.Recursion.{and_push, and_fails_at}
use Rattle.std.proofs.lemmas.Str.{digit_value_digit}
use Rattle.std.proofs.lemmas.Str.Parse.{IsNumeralModel, numerals_by_value, tells_all_ascii_digits, digit_from_value}
use Rattle.std.specs.Char.{is_ascii_digit, digit_value}
use Rattle.std.specs.Str.{all_ascii_digits}
use Rattle.std.specs.Str.Parse.{digits_value}
use Rattle.fmp_trace.specs.Steps.{digits_number}

-- digits, and one more
pub all_digits_more : (text : List ℕ) (i : ℕ) → i < length text → all_ascii_digits (take i text) ≡ true
    → is_ascii_digit (get_or text i 0) ≡ true → all_ascii_digits (take (i + 1) text) ≡ true
all_digits_more text i h a d =
    ap all_ascii_digits (take_more text i 0 h)
    ∙ and_push all_ascii_digits is_ascii_digit refl (λ _ _. refl) (take i text) (get_or text i 0)
    ∙ (ap (λ t. t && is_ascii_digit (get_or text i 0)) a ∙ d)

-- a capped value, and one more digit
pub capped_more : (v n b : ℕ) → v ≡ min n 1048577 → digit_value b < 10 → min (v * 10 + (b - 48)) 1048577
    ≡ min (n * 10 + digit_value b) 1048577
capped_more v n b e h = let d = digit_value_digit b (digit_from_value b h) in omega (arith, d, e)

pub value_more : (text : List ℕ) (i v : ℕ) → i < length text → v ≡ min (digits_value 10 (take i text)) 1048577
    → digit_value (get_or text i 0) < 10
    → min (v * 10 + (get_or text i 0 - 48)) 1048577 ≡ min (digits_value 10 (take (i + 1) text)) 1048577
value_more text i v h e d =
    capped_more v (digits_value 10 (take i text)) (get_or text i 0) e d
    ∙ ap (λ n. min n 1048577) (sym (digits_value_more 10 text i h))

-- a byte that is no digit
pub not_digits : (text : List ℕ) (i : ℕ) → i < length text → is_ascii_digit (get_or text i 0) ≡ false
    → digits_number text ≡ None
not_digits text i h d =
    ap (λ t. cond t (Some (digits_value 10 text)) None) (and_fails_at all_ascii_digits is_ascii_digit refl
    (λ _ _. refl) text i 0 h d)
