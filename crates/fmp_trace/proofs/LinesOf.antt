-- The lines of a text.
use Rattle.std.proofs.Common.{ℕ, zero, suc, ◌+◌, ◌-◌, ◌<◌, ◌≤◌, ◌≡◌, ◌≢◌, List, [], ◌∷◌, ◌++◌, false, true, Option}
use Rattle.std.proofs.Common.{Some, None, Bool, cond, nat_eq, nat_lt, length, take, drop, get_or, position, drop-cons}
use Rattle.std.proofs.Common.{length-drop, add-one, refl, ap, subst, sym, ◌∙◌, arith}
use Rattle.std.proofs.lemmas.Bool.{eqb-true, ltb-false}
use Rattle.std.proofs.Math.Seq.{take-length}
use Rattle.std.proofs.lemmas.List.Sums.{fails_before_first}
use Rattle.std.specs.List.{position_or_len}
use Rattle.std.proofs.lemmas.List.{take-append-drop}
use Rattle.std.proofs.lemmas.List.Quantifiers.{position-Some}
use Rattle.std.specs.List.{AllByRecursion}
use Rattle.fmp_trace.specs.Steps.{lines_of, with_byte}

-- no byte of a line is a line feed
abbrev pub IsLine : List ℕ → Type 0
IsLine line = AllByRecursion (λ b. nat_eq b 10 ≡ false) line

-- a line, its line feed and a text
pub lines_of-ended : (line rest : List ℕ) → IsLine line → lines_of (line ++ 10 ∷ rest) ≡ line ∷ lines_of rest
lines_of-ended [] rest h = refl
lines_of-ended (b ∷ bs) rest h =
    ap (λ t. with_byte t b (lines_of (bs ++ 10 ∷ rest))) h.0 ∙ ap (with_byte false b) (lines_of-ended bs rest h.1)

-- a last line without its line feed
pub lines_of-last : (b : ℕ) (bs : List ℕ) → IsLine (b ∷ bs) → lines_of (b ∷ bs) ≡ (b ∷ bs) ∷ []
lines_of-last b [] h = ap (λ t. with_byte t b []) h.0
lines_of-last b (c ∷ cs) h =
    ap (λ t. with_byte t b (lines_of (c ∷ cs))) h.0 ∙ ap (with_byte false b) (lines_of-last c cs h.1)

-- up to the first line feed stands a line
is_line_before : (text : List ℕ) (i : ℕ) → i ≤ length text → ((k : ℕ) → k < i → nat_eq (get_or text k 0) 10 ≡ false)
    → IsLine (take i text)
is_line_before text zero h before = tt
is_line_before [] (suc i) h before = absurd (omega arith)
is_line_before (b ∷ bs) (suc i) h before =
    (before 0 (omega arith), is_line_before bs i (omega arith) (λ k lt. before (suc k) (omega arith)))

-- the first line of a text that has a line feed
pub lines_of-first : (text : List ℕ) (i : ℕ) → position (λ b. nat_eq b 10) text ≡ Some i → lines_of text ≡ take i text
    ∷ lines_of (drop (i + 1) text)
lines_of-first text i e =
    let p = position-Some (λ b. nat_eq b 10) text i 0 e in
    let feed : get_or text i 0 ≡ 10 = eqb-true (get_or text i 0) 10 p.1 in
    let line : IsLine (take i text) = is_line_before text i (omega (arith, p.0)) p.2 in
    let cut : text ≡ take i text ++ 10 ∷ drop (i + 1) text =
    sym (take-append-drop i text)
    ∙ ap (λ xs. take i text ++ xs) (drop-cons text i 0 p.0 ∙ ap (λ n. n ∷ drop (suc i) text) feed
    ∙ ap (λ k. 10 ∷ drop k text) (sym (add-one i))) in
    ap lines_of cut ∙ lines_of-ended (take i text) (drop (i + 1) text) line

at_none : (t : Bool) (n : ℕ) → ◌≡◌ {A = Option ℕ} (cond t (Some n) None) None → t ≡ false
at_none true n e = cc
at_none false n e = refl

-- a text without a line feed is one line
pub lines_of-only : (text : List ℕ) → text ≢ [] → position (λ b. nat_eq b 10) text ≡ None → lines_of text ≡ text ∷ []
lines_of-only [] some e = absurd (some refl)
lines_of-only (b ∷ bs) some e =
    let text = b ∷ bs in
    let past = ltb-false _ _ (at_none (nat_lt (position_or_len (λ c. nat_eq c 10) text) (length text)) _ e) in
    let line : IsLine (take (length text) text) =
    is_line_before text (length text) (omega arith) (λ k lt. fails_before_first (λ c. nat_eq c 10) text k 0
    (omega (arith, past))) in
    lines_of-last b bs (let P : List ℕ → Type 0 = IsLine in subst P (take-length text) line)

-- what is left of a text from a place on, to its end
pub rest_whole : (text : List ℕ) (k : ℕ) → take (length text - k) (drop k text) ≡ drop k text
rest_whole text k = ap (λ n. take n (drop k text)) (sym (length-drop k text)) ∙ take-length (drop k text)
