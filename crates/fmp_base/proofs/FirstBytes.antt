-- A look-up by name finds the same among those that begin as the name does.
use Rattle.std.proofs.Common.{◌≡◌, ℕ, List, [], ◌∷◌, Bool, true, false, Option, Some, None, find, cond, refl, sym, ◌∙◌}
use Rattle.std.proofs.Common.{nat_eq, arith}
use Rattle.std.specs.Prelude.{slice_get}
use Rattle.std.specs.List.{filter}
use Rattle.std.specs.Str.{bytes_eq}
use Rattle.std.proofs.lemmas.Slice.Eq.{bytes_eq-Decides}
use Rattle.std.proofs.lemmas.Bool.Decides.{nat_tests}
use Rattle.fmp_base.specs.Words.{begins_with}

nat_eq-same : (b : ℕ) → nat_eq b b ≡ true
nat_eq-same b = grind (arith, nat_tests)

-- a name that is the word begins as the word does
begins_same : (name : List ℕ) (b : ℕ) (bs : List ℕ) → bytes_eq name (b ∷ bs) ≡ true → begins_with b name ≡ true
begins_same name b bs e =
    let same : name ≡ b ∷ bs = (bytes_eq-Decides name (b ∷ bs)).0 e in
    rw same (nat_eq-same b)

kept : {X : Type 0} (x : X) (p q : Bool) (rest all : Option X) (f : X → Bool) (xs : List X) → (p ≡ true → q ≡ true)
    → f x ≡ p → find f xs ≡ rest → rest ≡ all → find f (cond q (x ∷ xs) xs) ≡ cond p (Some x) all
kept x true true rest all f xs h e r s = rw e refl
kept x true false rest all f xs h e r s = let e' = h refl in cc
kept x false true rest all f xs h e r s = rw e (r ∙ s)
kept x false false rest all f xs h e r s = r ∙ s

pub named_from : {X : Type 0} (name : X → List ℕ) (b : ℕ) (bs : List ℕ) (xs : List X)
    → find (λ x. bytes_eq (name x) (b ∷ bs)) (filter (λ x. begins_with b (name x)) xs)
    ≡ find (λ x. bytes_eq (name x) (b ∷ bs)) xs
named_from name b bs [] = refl
named_from name b bs (x ∷ xs) =
    kept x (bytes_eq (name x) (b ∷ bs)) (begins_with b (name x)) _ _ (λ y. bytes_eq (name y) (b ∷ bs))
    (filter (λ y. begins_with b (name y)) xs) (begins_same (name x) b bs) refl refl (named_from name b bs xs)

-- the word is known by its first byte
pub named_from_first : {X : Type 0} (name : X → List ℕ) (b : ℕ) (word : List ℕ) (xs : List X)
    → slice_get word 0 ≡ Some b
    → find (λ x. bytes_eq (name x) word) (filter (λ x. begins_with b (name x)) xs)
    ≡ find (λ x. bytes_eq (name x) word) xs
named_from_first name b [] xs e = cc
named_from_first name b (c ∷ cs) xs e =
    let same : c ≡ b = cc in
    rw (sym same) (named_from name c cs xs)

-- a word without a first byte is empty
pub no_first : (word : List ℕ) → slice_get word 0 ≡ None → word ≡ []
no_first [] e = refl
no_first (b ∷ bs) e = cc
