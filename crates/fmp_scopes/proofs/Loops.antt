-- What one turn of a loop over a list leaves to do.
use Rattle.std.proofs.Common.{◌≡◌, ℕ, suc, ◌+◌, ◌<◌, ◌≤◌, Bool, cond, List, [], ◌∷◌, Some, None, length, drop, get_or}
use Rattle.std.proofs.Common.{map, sym, ap, ◌∙◌, arith, drop-cons}
use Rattle.std.specs.List.{position, position_from}
use Rattle.std.proofs.lemmas.Iterator.Adapters.{position_from-zero}
use Rattle.std.proofs.Math.ListN.{drop_of_length-le}
use Rattle.std.proofs.lemmas.List.{drop-map}

pub drop-step :
    {A : Type 0} (xs : List A) (i : ℕ) (x : A) → i < length xs → x ≡ get_or xs i x → drop i xs ≡ x ∷ drop (i + 1) xs
drop-step xs i x h e =
    let one : suc i ≡ i + 1 = omega arith in
    drop-cons xs i x h ∙ ap (λ y. y ∷ drop (suc i) xs) (sym e) ∙ ap (λ n. x ∷ drop n xs) one

pub drop-all : {A : Type 0} (xs : List A) (i : ℕ) → length xs ≤ i → drop i xs ≡ []
drop-all xs i h = drop_of_length-le xs h

pub map-step :
    {A B : Type 0} (f : A → B) (xs : List A) (i : ℕ) (x : A) → i < length xs → x ≡ get_or xs i x →
    map f (drop i xs) ≡ f x ∷ map f (drop (i + 1) xs)
map-step f xs i x h e = ap (map f) (drop-step xs i x h e)

-- a search for a row by its name
pub position-step :
    {R A : Type 0} (t : A → Bool) (f : R → A) (rows : List R) (i : ℕ) (r : R) → i < length rows → r ≡ get_or rows i r →
    position_from t i (drop i (map f rows)) ≡ cond (t (f r)) (Some i) (position_from t (i + 1)
    (drop (i + 1) (map f rows)))
position-step t f rows i r h e =
    ap (position_from t i) (drop-map f i rows ∙ map-step f rows i r h e)
    ∙ ap (λ xs. cond (t (f r)) (Some i) (position_from t (i + 1) xs)) (sym (drop-map f (i + 1) rows))

pub position-start : {A : Type 0} (t : A → Bool) (xs : List A) → position_from t 0 (drop 0 xs) ≡ position t xs
position-start t xs = sym (position_from-zero t xs)

pub position-end :
    {A : Type 0} (t : A → Bool) (xs : List A) (i : ℕ) → length xs ≤ i → position_from t i (drop i xs) ≡ None
position-end t xs i h = ap (position_from t i) (drop-all xs i h)

pub ruleset loop_steps = (position-step, position-start, position-end)
