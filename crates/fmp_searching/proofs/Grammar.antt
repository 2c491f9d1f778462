-- What std's calls on texts give, in the words of the grammar.
use Rattle.std.proofs.Common.{◌≡◌, ℕ, ℤ, pos, negsuc, ◌+◌, ◌-◌, ◌^◌, ◌<◌, ◌≤◌, List, length, take, drop, Bool, true}
use Rattle.std.proofs.Common.{false, cond, true≢false, Option, Some, None, Result, Ok, Err, MatchOption, FitsSigned}
use Rattle.std.proofs.Common.{nat_eq, nat_lt, option_map, suc, inl, inr, refl, sym, ap, ap₂, subst, ◌∙◌, arith}
use Rattle.std.proofs.lemmas.Bool.Decides.{Decides-and, Decides-ltb, leb_tells}
use Rattle.std.proofs.lemmas.Str.Parse.{numerals_by_value, tells_all_ascii_digits}
use Rattle.std.proofs.lemmas.Str.Pattern.{IsSplitOnceResult, ends_text, split_once_first, starts_text}
use Rattle.std.specs.Bool.{Decides}
use Rattle.std.specs.Int.{w32}
use Rattle.std.specs.List.{position_or_len}
use Rattle.std.specs.Result.{OkIff, result_ok}
use Rattle.std.specs.Str.{IsCharBoundary, all_ascii_digits}
use Rattle.std.specs.Str.Parse.{IsNumeral, ParsesSigned, ParsesUnsigned, digits_value, signed_digits_value}
use Rattle.std.specs.Str.Parse.{without_leading_plus, without_leading_sign}
use Rattle.std.specs.Str.Pattern.{FindsTextPrefix, FindsTextSuffix, StripsPrefix, StripsSuffix}
use denote.Ref.{Bor}
use Rattle.fmp_searching.specs.Words.{after, are_digits, before, is_value, number_named, parts_at, value_named}

from_decides : {A E : Type 0} (b : Bool) (P : Type 0) (v : A) (r : Result A E) → Decides b P → OkIff r P v
    → result_ok r ≡ cond b (Some v) None
from_decides true P v (Ok x) d h = ap (λ y. Some y) h.1
from_decides false P v (Ok x) d h = absurd (true≢false (sym (d.1 h.0)))
from_decides true P v (Err e) d h = absurd (h (d.0 refl))
from_decides false P v (Err e) d h = refl

pub are_digits-Decides : (text : List ℕ) → Decides (are_digits text) (IsNumeral 10 text)
are_digits-Decides text =
    let own = numerals_by_value (λ ds. all_ascii_digits ds ≡ true) tells_all_ascii_digits in
    Decides-and _ _ (Decides-ltb 0 (length text)) (own.to text, own.from text)

pub is_value-Decides : (z : ℤ) → Decides (is_value z) (FitsSigned w32 z)
is_value-Decides (pos n) = let d = Decides-ltb n (2 ^ 31) in (λ e. record { sfits = d.0 e }, λ f. d.1 f.sfits)
is_value-Decides (negsuc n) = let d = Decides-ltb n (2 ^ 31) in (λ e. record { sfits = d.0 e }, λ f. d.1 f.sfits)

pub value_parsed : {E : Type 0} (text : List ℕ) (r : Result ℤ E) → ParsesSigned w32 10 text r
    → result_ok r ≡ value_named text
unfolding value_named
value_parsed text r h =
    from_decides _ _ _ r
    (Decides-and _ _
    (are_digits-Decides (without_leading_sign text))
    (is_value-Decides (signed_digits_value 10 text)))
    h

pub number_parsed : {E : Type 0} (text : List ℕ) (r : Result ℕ E) → ParsesUnsigned 32 10 text r
    → result_ok r ≡ number_named text
unfolding number_named
number_parsed text r h =
    from_decides _ _ _ r
    (Decides-and _ _
    (are_digits-Decides (without_leading_plus text))
    (Decides-ltb (digits_value 10 (without_leading_plus text)) (2 ^ 32)))
    h

pub after_stripped : (front text : List ℕ) (r : Option (Bor (List ℕ)))
    → MatchOption r (FindsTextPrefix front text None) (λ x. StripsPrefix (FindsTextPrefix front) text x.now)
    → MatchOption r (after front text ≡ None) (λ x. after front text ≡ Some x.now)
unfolding after
after_stripped front text None h =
    ap (λ b. cond b (Some (drop (length front) text)) None) (sym (starts_text false front text h))
after_stripped front text (Some x) h =
    let whole = starts_text true front text (h.0, h.1, subst (λ k. IsCharBoundary text k) (sym h.1.0) h.1.2) in
    ap (λ b. cond b (Some (drop (length front) text)) None) (sym whole)
    ∙ ap (λ k. Some (drop k text)) (sym h.1.0)
    ∙ ap (λ rest. Some rest) (sym h.2)

pub before_stripped : (back text : List ℕ) (r : Option (Bor (List ℕ)))
    → MatchOption r (FindsTextSuffix back text None) (λ x. StripsSuffix (FindsTextSuffix back) text x.now)
    → MatchOption r (before back text ≡ None) (λ x. before back text ≡ Some x.now)
unfolding before
before_stripped back text None h =
    ap (λ b. cond b (Some (take (length text - length back) text)) None) (sym (ends_text false back text h))
before_stripped back text (Some x) h =
    let within : h.0 ≤ length text = omega (arith, h.3) in
    let on = subst (λ k. IsCharBoundary text (length text - k)) (sym h.1.0) h.1.2 in
    let whole = ends_text true back text (h.0, h.1, within, on) in
    ap (λ b. cond b (Some (take (length text - length back) text)) None) (sym whole)
    ∙ ap (λ k. Some (take (length text - k) text)) (sym h.1.0)
    ∙ ap (λ rest. Some rest) (sym h.2)

pub parts_split : (c : ℕ) (text : List ℕ) (r : Option (Bor (List ℕ) × Bor (List ℕ))) → c < 128
    → IsSplitOnceResult c text r
    → MatchOption r (parts_at c text ≡ None) (λ parts. parts_at c text ≡ Some (parts.0.now, parts.1.now))
unfolding parts_at
parts_split c text None low h =
    let p = position_or_len (λ b. nat_eq b c) text in
    let end : p ≡ length text = split_once_first c text None h low in
    let beyond : nat_lt p (length text) ≡ false =
    elim (leb_tells (suc p) (length text)) [ inl t ↦ absurd (omega (arith, t.1)) | inr t ↦ t.0 ] in
    ap (λ b. option_map (λ k. (take k text, drop (k + 1) text)) (cond b (Some p) None)) beyond
parts_split c text (Some x) low h =
    let p = position_or_len (λ b. nat_eq b c) text in
    let first = split_once_first c text (Some x) h low in
    ap
    (λ b. option_map (λ k. (take k text, drop (k + 1) text)) (cond b (Some p) None))
    ((Decides-ltb p (length text)).1 first.0)
    ∙ ap₂ (λ front back. Some (front, back)) (sym first.1) (sym first.2)
