-- The lines of a text, and the words of a line.
use Rattle.std.proofs.Common.{◌≡◌, ◌∙◌, ℕ, suc, zero, ◌+◌, ◌-◌, ◌<◌, ◌≤◌, get_or, inl, inr, List, [], ◌∷◌, Option}
use Rattle.std.proofs.Common.{Some, None, Bool, true, false}
use Rattle.std.proofs.Common.{not, cond, nat_eq, nat_lt, length, take, drop, position, length-drop, refl, ap, sym}
use Rattle.std.proofs.Common.{arith}
use Rattle.std.specs.List.{before_first, filter, onto_first, position_or_len, slice_split}
use Rattle.std.proofs.Math.Seq.{take-length}
use Rattle.std.proofs.lemmas.Bool.{ltb-true, ltb-false}
use Rattle.std.proofs.lemmas.List.{take_all}
use Rattle.std.proofs.lemmas.List.Splits.{slice_split_first}
use Rattle.fmp_base.specs.Systems.{SystemTables}
use Rattle.fmp_expect.specs.CallSentences.{IsCut}
use Rattle.fmp_expect.specs.Grammar.{expectations_from, in_front, line_meaning}
use Rattle.fmp_expect.specs.Words.{is_blank, is_word, lines_of, words_of}

at_some : (t : Bool) (n m : ℕ) → ◌≡◌ {A = Option ℕ} (cond t (Some n) None) (Some m) → (t ≡ true) × (n ≡ m)
at_some true n m e = (refl, cc)
at_some false n m e = cc

at_none : (t : Bool) (n : ℕ) → ◌≡◌ {A = Option ℕ} (cond t (Some n) None) None → t ≡ false
at_none true n e = cc
at_none false n e = refl

-- the first part of a text that is cut somewhere
pub split_at : (p : ℕ → Bool) (xs : List ℕ) (i : ℕ) → position p xs ≡ Some i
    → slice_split p xs ≡ take i xs ∷ slice_split p (drop (i + 1) xs)
split_at p xs i e =
    let at = at_some (nat_lt (position_or_len p xs) (length xs)) (position_or_len p xs) i e in
    slice_split_first p xs 0 (ltb-true _ _ at.0)
    ∙ ap (λ k. take k xs ∷ slice_split p (drop (k + 1) xs)) at.1

some_or_none : (p : ℕ → Bool) (xs : List ℕ) → position p xs ≡ None → length xs ≤ position_or_len p xs
some_or_none p xs e = ltb-false _ _ (at_none (nat_lt (position_or_len p xs) (length xs)) (position_or_len p xs) e)

split_step : (b : Bool) (p : ℕ → Bool) (x : ℕ) (xs : List ℕ) → suc (length xs) ≤ cond (not b)
    (1 + position_or_len p xs) 0
    → (length xs ≤ position_or_len p xs → slice_split p xs ≡ xs ∷ [])
    → cond b ([] ∷ slice_split p xs) (onto_first x (slice_split p xs)) ≡ (x ∷ xs) ∷ []
split_step true p x xs h more = absurd (omega (arith, h))
split_step false p x xs h more = ap (onto_first x) (more (omega (arith, h)))

split_whole : (p : ℕ → Bool) (xs : List ℕ) → length xs ≤ position_or_len p xs → slice_split p xs ≡ xs ∷ []
split_whole p [] h = refl
split_whole p (x ∷ xs) h = split_step (p x) p x xs h (split_whole p xs)

-- a text that is cut nowhere
pub split_none : (p : ℕ → Bool) (xs : List ℕ) → position p xs ≡ None → slice_split p xs ≡ xs ∷ []
split_none p xs e = split_whole p xs (some_or_none p xs e)

-- a line that ends
pub line_at : (sys : SystemTables) (n : ℕ) (text : List ℕ) (i : ℕ) → position (λ b. nat_eq b 10) text ≡ Some i
    → expectations_from sys n (lines_of text)
    ≡ in_front n (line_meaning sys (take i text)) (expectations_from sys (n + 1) (lines_of (drop (i + 1) text)))
line_at sys n text i e = ap (expectations_from sys n) (split_at (λ b. nat_eq b 10) text i e)

-- the last line
pub line_last : (sys : SystemTables) (n : ℕ) (text : List ℕ) → position (λ b. nat_eq b 10) text ≡ None
    → expectations_from sys n (lines_of text)
    ≡ in_front n (line_meaning sys text) (expectations_from sys (n + 1) (lines_of []))
line_last sys n text e = ap (expectations_from sys n) (split_none (λ b. nat_eq b 10) text e)

-- a part that ends at a blank
pub part_at : (xs : List ℕ) (i : ℕ) → position is_blank xs ≡ Some i
    → words_of xs ≡ cond (is_word (take i xs)) (take i xs ∷ words_of (drop (i + 1) xs)) (words_of (drop (i + 1) xs))
part_at xs i e = ap (filter is_word) (split_at is_blank xs i e)

-- the last part
pub part_last : (xs : List ℕ) → position is_blank xs ≡ None
    → words_of xs ≡ cond (is_word xs) (xs ∷ words_of []) (words_of [])
part_last xs e = ap (filter is_word) (split_none is_blank xs e)

pub no_word : (xs : List ℕ) → length xs ≡ 0 → words_of xs ≡ []
no_word [] h = refl
no_word (x ∷ xs) h = absurd (omega (arith, h))

-- what stands before a byte, and where there is none
pub before_at : (p : ℕ → Bool) (xs : List ℕ) (i : ℕ) → position p xs ≡ Some i → take i xs ≡ before_first p xs
before_at p xs i e =
    sym (ap (λ k. take k xs) (at_some (nat_lt (position_or_len p xs) (length xs)) (position_or_len p xs) i e).1)

pub before_none : (p : ℕ → Bool) (xs : List ℕ) → position p xs ≡ None → xs ≡ before_first p xs
before_none p xs e = sym (take_all (position_or_len p xs) xs (some_or_none p xs e))

-- what is left of a text from a place on, to its end
pub rest_whole : (text : List ℕ) (k : ℕ) → take (length text - k) (drop k text) ≡ drop k text
rest_whole text k = ap (λ n. take n (drop k text)) (sym (length-drop k text)) ∙ take-length (drop k text)

-- ---- a line of a text

next_line : (line : List ℕ) (lines : List (List ℕ)) (left : ℕ) → 0 < left
    → get_or (line ∷ lines) left [] ≡ get_or lines (left - 1) []
next_line line lines zero h = absurd (omega (arith, h))
next_line line lines (suc left) h = ap (λ n. get_or lines n []) (omega arith)

pub no_line : (left : ℕ) → get_or (lines_of []) left [] ≡ []
no_line zero = refl
no_line (suc left) = refl

pub first_is : (text line rest : List ℕ) → IsCut text line rest → get_or (lines_of text) 0 [] ≡ line
first_is text line rest (inl e) = ap (λ lines. get_or lines 0 []) e
first_is text line rest (inr (none, e)) = ap (λ lines. get_or lines 0 []) e

-- the lines after the first are those of the rest
pub next_is : (text line rest : List ℕ) (left : ℕ) → IsCut text line rest → 0 < left
    → get_or (lines_of text) left [] ≡ get_or (lines_of rest) (left - 1) []
next_is text line rest left (inl e) h = ap (λ lines. get_or lines left []) e ∙ next_line line (lines_of rest) left h
next_is text line rest left (inr (none, e)) h =
    ap (λ lines. get_or lines left []) e ∙ next_line line [] left h
    ∙ sym (ap (λ t. get_or (lines_of t) (left - 1) []) none ∙ no_line (left - 1))
