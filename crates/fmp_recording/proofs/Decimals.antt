-- Numbers in decimal digits.
use Rattle.std.proofs.Common.{ℕ, ◌≡◌, ◌+◌, ◌-◌, ◌*◌, ◌<◌, List, length, take, get_or, min, ap, sym, ◌∙◌, arith}
use Rattle.std.proofs.lemmas.Int.Digits.{digits_value_more}
use Rattle.std.proofs.lemmas.Str.{digit_value_digit}
use Rattle.std.proofs.lemmas.Str.Parse.{digit_from_value}
use Rattle.std.specs.Char.{digit_value}
use Rattle.std.specs.Str.Parse.{digits_value}

capped_more : (v n b : ℕ) → v ≡ min n 9007199254740993 → digit_value b < 10
    → min (v * 10 + (b - 48)) 9007199254740993 ≡ min (n * 10 + digit_value b) 9007199254740993
capped_more v n b e h = let d = digit_value_digit b (digit_from_value b h) in omega (arith, d, e)

-- a capped value, and one more digit
pub value_more : (text : List ℕ) (i v : ℕ) → i < length text → v ≡ min (digits_value 10 (take i text)) 9007199254740993
    → digit_value (get_or text i 0) < 10
    → min (v * 10 + (get_or text i 0 - 48)) 9007199254740993 ≡ min (digits_value 10 (take (i + 1) text))
    9007199254740993
value_more text i v h e d =
    capped_more v (digits_value 10 (take i text)) (get_or text i 0) e d
    ∙ ap (λ n. min n 9007199254740993) (sym (digits_value_more 10 text i h))
