-- What std's calls on texts give, in the words of rates.
use Rattle.std.proofs.Common.{◌≡◌, ℕ, suc, ◌+◌, ◌^◌, List, length, take, drop, Bool, true, false, cond, true≢false}
use Rattle.std.proofs.Common.{Option, Some, None, Result, Ok, Err, MatchOption, nat_eq, nat_lt, option_map, inl, inr}
use Rattle.std.proofs.Common.{refl, sym, ap, ap₂, ◌∙◌, arith}
use Rattle.std.proofs.lemmas.Bool.Decides.{Decides-and, Decides-ltb, leb_tells}
use Rattle.std.proofs.lemmas.Str.Parse.{numerals_by_value, tells_all_ascii_digits}
use Rattle.std.proofs.lemmas.Str.Pattern.{IsSplitOnceResult, split_once_first}
use Rattle.std.specs.Bool.{Decides}
use Rattle.std.specs.List.{position_or_len}
use Rattle.std.specs.Result.{OkIff, result_ok}
use Rattle.std.specs.Str.{all_ascii_digits}
use Rattle.std.specs.Str.Parse.{IsNumeral, ParsesUnsigned, digits_value, without_leading_plus}
use denote.Ref.{Bor}
use Rattle.fmp_looking.specs.Rates.{are_digits, number_named, parts_at_colon}

from_decides : {A E : Type 0} (b : Bool) (P : Type 0) (v : A) (r : Result A E) → Decides b P → OkIff r P v
    → result_ok r ≡ cond b (Some v) None
from_decides true P v (Ok x) d h = ap (λ y. Some y) h.1
from_decides false P v (Ok x) d h = absurd (true≢false (sym (d.1 h.0)))
from_decides true P v (Err e) d h = absurd (h (d.0 refl))
from_decides false P v (Err e) d h = refl

are_digits-Decides : (text : List ℕ) → Decides (are_digits text) (IsNumeral 10 text)
are_digits-Decides text =
    let own = numerals_by_value (λ ds. all_ascii_digits ds ≡ true) tells_all_ascii_digits in
    Decides-and _ _ (Decides-ltb 0 (length text)) (own.to text, own.from text)

pub number_parsed : {E : Type 0} (bits : ℕ) (text : List ℕ) (r : Result ℕ E) → ParsesUnsigned bits 10 text r
    → result_ok r ≡ number_named bits text
unfolding number_named
number_parsed bits text r h =
    from_decides _ _ _ r
    (Decides-and _ _
    (are_digits-Decides (without_leading_plus text))
    (Decides-ltb (digits_value 10 (without_leading_plus text)) (2 ^ bits)))
    h

pub parts_split : (text : List ℕ) (r : Option (Bor (List ℕ) × Bor (List ℕ))) → IsSplitOnceResult 58 text r
    → MatchOption r (parts_at_colon text ≡ None) (λ parts. parts_at_colon text ≡ Some (parts.0.now, parts.1.now))
unfolding parts_at_colon
parts_split text None h =
    let p = position_or_len (λ b. nat_eq b 58) text in
    let end : p ≡ length text = split_once_first 58 text None h (omega arith) in
    let beyond : nat_lt p (length text) ≡ false =
    elim (leb_tells (suc p) (length text)) [ inl t ↦ absurd (omega (arith, t.1)) | inr t ↦ t.0 ] in
    ap (λ b. option_map (λ k. (take k text, drop (k + 1) text)) (cond b (Some p) None)) beyond
parts_split text (Some x) h =
    let p = position_or_len (λ b. nat_eq b 58) text in
    let first = split_once_first 58 text (Some x) h (omega arith) in
    ap
    (λ b. option_map (λ k. (take k text, drop (k + 1) text)) (cond b (Some p) None))
    ((Decides-ltb p (length text)).1 first.0)
    ∙ ap₂ (λ front back. Some (front, back)) (sym first.1) (sym first.2)
