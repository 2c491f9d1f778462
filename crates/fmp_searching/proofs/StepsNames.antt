-- Names of files of steps: what stands after their last dot.
use Rattle.std.proofs.Common.{◌≡◌, ◌≢◌, ◌∙◌, ◌<◌, ◌^◌, ◌++◌, ◌&&◌, ℕ, suc, zero, Bool, true, List, [], ◌∷◌, MatchOption}
use Rattle.std.proofs.Common.{Option, None, Some, ap, arith, drop, get_or, length, nat_eq, refl, subst, sym, take}
use Rattle.std.proofs.lemmas.Bool.{eqb-true}
use Rattle.std.proofs.lemmas.List.{take-append-drop}
use Rattle.std.proofs.lemmas.Fmt.{digits_decimal}
use Rattle.std.proofs.lemmas.Str.Parse.{numerals_by_value, tells_all_ascii_digits, not_in_digits}
use Rattle.std.proofs.lemmas.Str.Pattern.{NoCharPasses-char, drop_at_char}
use Rattle.std.specs.Char.{is_ascii_digit}
use Rattle.std.specs.Fmt.{decimal}
use Rattle.std.specs.List.{list_all}
use Rattle.std.specs.Str.{all_ascii_digits}
use Rattle.std.specs.Str.Pattern.{RFindsChar, SplitsAroundMatch}
use denote.Ref.{Bor}
use Rattle.fmp_searching.specs.Files.{HasNo}

head_of : {a b : ℕ} {x y : List ℕ} → a ∷ x ≡ b ∷ y → a ≡ b
head_of {a} {b} {x} {y} e = ap (λ (l : List ℕ). get_or l 0 0) e

tail_of : {a b : ℕ} {x y : List ℕ} → a ∷ x ≡ b ∷ y → x ≡ y
tail_of {a} {b} {x} {y} e = ap (λ (l : List ℕ). drop 1 l) e

-- the byte at the seam of two texts
at_seam : (c : ℕ) (front back : List ℕ) → get_or (front ++ (c ∷ back)) (length front) 0 ≡ c
at_seam c [] back = refl
at_seam c (x ∷ front) back = at_seam c front back

within_seam : (c : ℕ) (front back : List ℕ) → length front < length (front ++ (c ∷ back))
within_seam c [] back = omega arith
within_seam c (x ∷ front) back = let more = within_seam c front back in omega (arith, more)

-- the last such byte of a text stands in one place
last_split : (c : ℕ) (a d b e : List ℕ) → a ++ (c ∷ d) ≡ b ++ (c ∷ e) → HasNo c d → HasNo c e → d ≡ e
last_split c [] d [] e same no_d no_e = tail_of same
last_split c [] d (y ∷ b) e same no_d no_e =
    let is : d ≡ b ++ (c ∷ e) = tail_of same in
    absurd
    (no_d (length b) (subst (λ (l : List ℕ). length b < length l) (sym is) (within_seam c b e))
    (ap (λ (l : List ℕ). get_or l (length b) 0) is ∙ at_seam c b e))
last_split c (x ∷ a) d [] e same no_d no_e =
    let is : a ++ (c ∷ d) ≡ e = tail_of same in
    absurd
    (no_e (length a) (subst (λ (l : List ℕ). length a < length l) is (within_seam c a d))
    (ap (λ (l : List ℕ). get_or l (length a) 0) (sym is) ∙ at_seam c a d))
last_split c (x ∷ a) d (y ∷ b) e same no_d no_e = last_split c a d b e (tail_of same) no_d no_e

-- what stands after the last dot of a text that ends so
pub after_last : (c : ℕ) (bs front back : List ℕ) (r : Option (Bor (List ℕ) × Bor (List ℕ))) → c < 128
    → MatchOption r (RFindsChar c bs None) (λ x. SplitsAroundMatch (RFindsChar c) bs x.0.now x.1.now)
    → bs ≡ front ++ (c ∷ back) → ((i : ℕ) → i < length back → get_or back i 0 ≢ c)
    → MatchOption r ⊥ (λ x. x.1.now ≡ back)
after_last c bs front back None low h is free =
    NoCharPasses-char c bs (length front) h low
    (subst (λ (l : List ℕ). length front < length l) (sym is) (within_seam c front back))
    (ap (λ (l : List ℕ). get_or l (length front) 0) is ∙ at_seam c front back)
after_last c bs front back (Some x) low h is free =
    let i = h.0 in
    let j = h.1 in
    let found = h.2 in
    let whole : take i bs ++ (c ∷ drop j bs) ≡ front ++ (c ∷ back) =
    ap (λ (l : List ℕ). take i bs ++ l) (sym (drop_at_char c bs i j found.1 low)) ∙ take-append-drop i bs ∙ is in
    let rest = drop j bs in
    h.4 ∙ last_split c (take i bs) rest front back whole (λ k. NoCharPasses-char c rest k found.0 low) free

-- ---- decimal numbers

pub not_empty : (xs : List ℕ) → nat_eq (length xs) 0 ≡ true → 0 < length xs → ⊥
not_empty xs h l =
    let none : length xs ≡ 0 = eqb-true (length xs) 0 h in
    omega (arith, l, none)

pub all_digits : (bs : List ℕ) → list_all is_ascii_digit bs ≡ all_ascii_digits bs
all_digits [] = refl
all_digits (b ∷ bs) = ap (λ (t : Bool). is_ascii_digit b && t) (all_digits bs)

pub digits_written : (n : ℕ) → n < 2 ^ 64 → all_ascii_digits (decimal n) ≡ true
digits_written n small =
    digits_decimal (numerals_by_value (λ ds. all_ascii_digits ds ≡ true) tells_all_ascii_digits) n small

-- a decimal number has no dot
pub no_dot : (n : ℕ) → n < 2 ^ 64 → (i : ℕ) → i < length (decimal n) → get_or (decimal n) i 0 ≢ 46
no_dot n small =
    let own = numerals_by_value (λ ds. all_ascii_digits ds ≡ true) tells_all_ascii_digits in
    not_in_digits own (decimal n) 46 (digits_written n small) (λ range. omega (arith, range.0, range.1))
