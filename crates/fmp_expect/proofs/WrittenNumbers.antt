-- Numbers are read as they are written.
use Rattle.std.proofs.Common.{ℕ, suc, zero, ◌≡◌, ◌+◌, ◌-◌, ◌<◌, ◌≤◌, ◌^◌, List, [], ◌∷◌, ◌++◌, true, false, cond}
use Rattle.std.proofs.Common.{Option, Some, None}
use Rattle.std.proofs.Common.{codes, length, take, get_or, min, nat_eq, nat_le, ◌&&◌, decimal, refl, ap, sym, ◌∙◌}
use Rattle.std.proofs.Common.{arith}
use Rattle.std.proofs.Math.Seq.{get_or-append_seam, take-append_seam}
use Rattle.std.proofs.lemmas.Bool.Decides.{nat_tests}
use Rattle.std.proofs.lemmas.Fmt.{decimal-digits_value, digits_decimal, digits_value-decimal, first_decimal}
use Rattle.std.proofs.lemmas.List.{length-append}
use Rattle.std.proofs.lemmas.Str.Parse.{IsNumeralModel, numerals_by_value, tells_all_ascii_digits}
use Rattle.std.specs.Fmt.{signed_decimal}
use Rattle.std.specs.Prelude.{ℤ, pos, negsuc, neg_ℤ, option_map}
use Rattle.std.specs.Str.{all_ascii_digits}
use Rattle.std.specs.Str.Parse.{digits_value}
use Rattle.fmp_expect.proofs.Digits.{are_digits}
use Rattle.fmp_expect.specs.Words.{before_close, in_range, number_of, numeral_value, digits_number, put_value}
use Rattle.fmp_expect.specs.Words.{signed_number}
use Rattle.fmp_expect.specs.Words.{value_before_close}
use Rattle.fmp_expect.specs.Written.{IsValue}

own : IsNumeralModel (λ ds. all_ascii_digits ds ≡ true) (digits_value 10)
own = numerals_by_value _ tells_all_ascii_digits

zero_text : decimal 0 ≡ codes "0"
zero_text = decimal-digits_value own (48 ∷ []) refl (omega arith) (λ _. refl) (omega arith)

-- digits of which the first is not 0
numeral_value-digits : (text : List ℕ) → 48 < get_or text 0 0 → all_ascii_digits text ≡ true
    → numeral_value text ≡ Some (digits_value 10 text)
numeral_value-digits [] h a = absurd (omega (arith, h))
numeral_value-digits (d ∷ []) h a = are_digits (d ∷ []) a
numeral_value-digits (d ∷ e ∷ ds) h a =
    let first : nat_eq d 48 ≡ false = grind (arith, nat_tests) in
    ap (λ t. cond t None (digits_number (d ∷ e ∷ ds))) first ∙ are_digits (d ∷ e ∷ ds) a

positive : (n : ℕ) → 1 ≤ n → n < 2 ^ 64 → numeral_value (decimal n) ≡ Some n
positive n low high =
    numeral_value-digits (decimal n) (first_decimal n low high) (digits_decimal own n high)
    ∙ ap (λ v. Some v) (digits_value-decimal own n high)

numeral_value-decimal : (n : ℕ) → n < 2 ^ 64 → numeral_value (decimal n) ≡ Some n
numeral_value-decimal zero high = ap numeral_value zero_text ∙ are_digits (48 ∷ []) refl
numeral_value-decimal (suc n) high = positive (suc n) (omega arith) high

within : (low high n : ℕ) → low ≤ n → n ≤ high → in_range low high (Some n) ≡ Some n
within low high n a b =
    let is_low : nat_le low n ≡ true = grind (arith, nat_tests) in
    let is_high : nat_le n high ≡ true = grind (arith, nat_tests) in
    ap (λ t. cond (t && nat_le n high) (Some n) None) is_low ∙ ap (λ t. cond t (Some n) None) is_high

pub number_of-decimal : (low high n : ℕ) → low ≤ n → n ≤ high → n < 2 ^ 64 → number_of low high (decimal n) ≡ Some n
number_of-decimal low high n a b c = ap (in_range low high) (numeral_value-decimal n c) ∙ within low high n a b

-- a text that begins with a digit has no sign
unsigned : (text : List ℕ) → 48 < get_or text 0 0 → signed_number text
    ≡ option_map (λ n. pos n) (number_of 0 2147483647 text)
unsigned [] h = absurd (omega (arith, h))
unsigned (b ∷ bs) h =
    let digit : nat_eq b 45 ≡ false = grind (arith, nat_tests) in
    ap (λ t. cond t (option_map (λ n. neg_ℤ (pos n)) (number_of 1 2147483648 bs))
    (option_map (λ n. pos n) (number_of 0 2147483647 (b ∷ bs)))) digit

pub signed_number-decimal : (v : ℤ) → IsValue v → signed_number (signed_decimal v) ≡ Some v
signed_number-decimal (pos zero) h =
    ap signed_number zero_text
    ∙ ap (option_map (λ n. pos n))
    (ap (number_of 0 2147483647) (sym zero_text)
    ∙ number_of-decimal 0 2147483647 0 (omega arith) (omega arith) (omega arith))
signed_number-decimal (pos (suc n)) h =
    unsigned (decimal (suc n)) (first_decimal (suc n) (omega arith) (omega (arith, h)))
    ∙ ap (option_map (λ n. pos n)) (number_of-decimal 0 2147483647 (suc n) (omega arith) (omega (arith, h))
    (omega (arith, h)))
signed_number-decimal (negsuc n) h =
    ap (option_map (λ n. neg_ℤ (pos n))) (number_of-decimal 1 2147483648 (suc n) (omega arith) (omega (arith, h))
    (omega (arith, h)))

-- what stands before a closing parenthesis
before_close-append : (text : List ℕ) → before_close (text ++ codes ")") ≡ Some text
before_close-append text =
    let all = text ++ 41 ∷ [] in
    let short : length all - 1 ≡ length text = omega (arith, length-append text (41 ∷ [])) in
    let last : nat_eq (get_or all (length all - 1) 0) 41 ≡ true =
    ap (λ n. nat_eq (get_or all n 0) 41) short ∙ ap (λ b. nat_eq b 41) (get_or-append_seam text 41 [] 0) in
    ap (λ t. cond t (Some (take (length all - 1) all)) None) last
    ∙ ap (λ n. Some (take n all)) short ∙ ap (λ xs. Some xs) (take-append_seam text (41 ∷ []))

pub put_value-decimal : (v : ℤ) → IsValue v → put_value (codes "put(" ++ (signed_decimal v ++ codes ")")) ≡ Some v
put_value-decimal v h =
    ap value_before_close (before_close-append (signed_decimal v)) ∙ signed_number-decimal v h
