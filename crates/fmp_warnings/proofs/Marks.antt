-- The keywords, calls and braces of a text, one token after another.
use Rattle.std.proofs.Common.{◌≡◌, ◌∙◌, ◌+◌, ℕ, List, [], ◌∷◌, ◌++◌, Option, Some, None, ap, arith, refl, sym}
use Rattle.std.specs.Prelude.{zero, suc, Bool, true, false, if◌then◌else◌, filter_map}
use Rattle.std.specs.List.{cons_option, range_with_len}
use Rattle.std.proofs.lemmas.List.{append-nil}
use Rattle.std.proofs.lemmas.List.Elements.{filter_map-append}
use Rattle.fmp_lex.specs.declared.token.Token.{Token}
use Rattle.fmp_lex.specs.declared.token.TokenKind.{TokenKind}
use Rattle.fmp_diagnosis.specs.Tokens.{begins_body, is_body_begun, kind_at, last_body}
use Rattle.fmp_warnings.specs.declared.landmarks.Mark.{Mark}
use Rattle.fmp_warnings.specs.Marks.{is_structure, mark, structure_at, structure_in, structure_of}

next : (n : ℕ) → n + 1 ≡ suc n
next n = omega arith

range_more : (a n : ℕ) → range_with_len a (n + 1) ≡ range_with_len a n ++ (a + n) ∷ []
range_more a zero = ap (λ (k : ℕ). k ∷ []) (omega arith)
range_more a (suc n) =
    ap (λ (m : ℕ). range_with_len a m) (next (suc n))
    ∙ ap (λ (m : ℕ). a ∷ range_with_len (a + 1) m) (sym (next n))
    ∙ ap (λ (ks : List ℕ). a ∷ ks) (range_more (a + 1) n)
    ∙ ap (λ (k : ℕ). a ∷ (range_with_len (a + 1) n ++ k ∷ [])) (omega arith)

structure_more : (ts : List Token) (n : ℕ)
    → structure_of ts (n + 1) ≡ structure_of ts n ++ cons_option (structure_at ts n) []
structure_more ts n =
    ap (λ (ks : List ℕ). filter_map (structure_at ts) ks) (range_more 0 n)
    ∙ filter_map-append (structure_at ts) (range_with_len 0 n) ((0 + n) ∷ [])
    ∙ ap (λ (k : ℕ). structure_of ts n ++ cons_option (structure_at ts k) []) (omega arith)

one_if : (b : Bool) (x : Mark) → (if b then x ∷ [] else []) ≡ cons_option (if b then Some x else None) []
one_if true x = refl
one_if false x = refl

-- one token more, which is noted
pub noted_body : (ts : List Token) (n : ℕ) (k : TokenKind) (old new : ℕ) → kind_at ts n ≡ Some k
    → old ≡ last_body ts n → new ≡ (if begins_body k then n else old) → new ≡ last_body ts (n + 1)
noted_body ts n k old new is was now =
    now
    ∙ ap (λ (b : ℕ). if begins_body k then n else b) was
    ∙ sym (ap (λ (o : Option TokenKind). if is_body_begun o then n else last_body ts n) is)
    ∙ ap (λ (m : ℕ). last_body ts m) (sym (next n))

pub noted_structure : (ts : List Token) (n : ℕ) (k : TokenKind) (body : ℕ) (old new : List Mark)
    → kind_at ts n ≡ Some k → old ≡ structure_of ts n → body ≡ last_body ts (n + 1)
    → new ≡ old ++ (if is_structure k then record { at = n; body = body } ∷ [] else [])
    → new ≡ structure_of ts (n + 1)
noted_structure ts n k body old new is was at_body now =
    now
    ∙ ap (λ (ms : List Mark). ms ++ (if is_structure k then record { at = n; body = body } ∷ [] else [])) was
    ∙ ap
    (λ (b : ℕ). structure_of ts n ++ (if is_structure k then record { at = n; body = b } ∷ [] else []))
    (at_body ∙ ap (λ (m : ℕ). last_body ts m) (next n))
    ∙ ap (λ (ms : List Mark). structure_of ts n ++ ms) (one_if (is_structure k) (mark ts n))
    ∙ sym (ap (λ (o : Option TokenKind). structure_of ts n ++ cons_option (structure_in ts n o) []) is)
    ∙ sym (structure_more ts n)

-- where no token is, nothing changes
pub passed_body : (ts : List Token) (n : ℕ) → kind_at ts n ≡ None → last_body ts (n + 1) ≡ last_body ts n
passed_body ts n is =
    ap (λ (m : ℕ). last_body ts m) (next n)
    ∙ ap (λ (o : Option TokenKind). if is_body_begun o then n else last_body ts n) is

pub passed_structure : (ts : List Token) (n : ℕ) → kind_at ts n ≡ None → structure_of ts (n + 1) ≡ structure_of ts n
passed_structure ts n is =
    structure_more ts n
    ∙ ap (λ (o : Option TokenKind). structure_of ts n ++ cons_option (structure_in ts n o) []) is
    ∙ append-nil (structure_of ts n)
