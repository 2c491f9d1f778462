-- What is left of a list after its first items.
use Rattle.std.proofs.Common.{◌≡◌, ℕ, zero, suc, ◌+◌, ◌<◌, ◌≤◌, List, [], ◌∷◌, length, get_or, take, drop, min}
use Rattle.std.proofs.Common.{add-one, refl, sym, ap, arith, Some, None}
use Rattle.std.proofs.Math.ListN.{drop_of_length-le}
use Rattle.std.proofs.lemmas.List.{length-take}
use Rattle.std.specs.Prelude.{slice_get}

found_next : {A : Type 0} (xs : List A) (n : ℕ) (x : A) → slice_get xs n ≡ Some x → drop n xs ≡ x ∷ drop (suc n) xs
found_next [] n x found = cc
found_next (y ∷ ys) zero x found = let same : y ≡ x = cc in ap (λ z. z ∷ ys) same
found_next (y ∷ ys) (suc n) x found = found_next ys n x found

taken_next : {A : Type 0} (xs : List A) (m n : ℕ) (x : A) → n < m → n < length xs → x ≡ get_or xs n x
    → drop n (take m xs) ≡ x ∷ drop (suc n) (take m xs)
taken_next xs zero n x below within is = absurd (omega arith)
taken_next [] (suc m) n x below within is = absurd (omega arith)
taken_next (y ∷ ys) (suc m) zero x below within is = ap (λ z. z ∷ take m ys) (sym is)
taken_next (y ∷ ys) (suc m) (suc n) x below within is = taken_next ys m n x (omega arith) (omega arith) is

-- an item that is found is the first of those left
pub drop_found : {A : Type 0} (xs : List A) (n : ℕ) (x : A) → slice_get xs n ≡ Some x → drop n xs ≡ x ∷ drop (n + 1) xs
drop_found xs n x found = rw add-one (found_next xs n x found)

-- nothing is left where no item is found
pub drop_missing : {A : Type 0} (xs : List A) (n : ℕ) → slice_get xs n ≡ None → drop n xs ≡ []
drop_missing [] zero missing = refl
drop_missing [] (suc n) missing = refl
drop_missing (y ∷ ys) zero missing = cc
drop_missing (y ∷ ys) (suc n) missing = drop_missing ys n missing

-- the item at a place is the first of those left of the first m
pub drop_taken : {A : Type 0} (xs : List A) (m n : ℕ) (x : A) → n < m → n < length xs → x ≡ get_or xs n x
    → drop n (take m xs) ≡ x ∷ drop (n + 1) (take m xs)
drop_taken xs m n x below within is = rw add-one (taken_next xs m n x below within is)

-- nothing is left of the first m after that many
pub drop_all_taken : {A : Type 0} (xs : List A) (m n : ℕ) → min (length xs) m ≤ n → drop n (take m xs) ≡ []
drop_all_taken xs m n reach = drop_of_length-le (take m xs) (omega (arith, length-take m xs))

-- nor of all
pub drop_all : {A : Type 0} (xs : List A) (n : ℕ) → length xs ≤ n → drop n xs ≡ []
drop_all xs n reach = drop_of_length-le xs reach

taken_found : {A : Type 0} (xs : List A) (m n : ℕ) (x : A) → n < m → slice_get xs n ≡ Some x
    → slice_get (take m xs) n ≡ Some x
taken_found xs zero n x below found = absurd (omega arith)
taken_found [] (suc m) n x below found = found
taken_found (y ∷ ys) (suc m) zero x below found = found
taken_found (y ∷ ys) (suc m) (suc n) x below found = taken_found ys m n x (omega arith) found

missing_reach : {A : Type 0} (xs : List A) (n : ℕ) → slice_get xs n ≡ None → length xs ≤ n
missing_reach [] n missing = omega arith
missing_reach (y ∷ ys) zero missing = cc
missing_reach (y ∷ ys) (suc n) missing =
    let below : length ys ≤ n = missing_reach ys n missing in omega arith

-- the item that is found at a place below m is the first of those left of the first m
pub drop_taken_found : {A : Type 0} (xs : List A) (m n : ℕ) (x : A) → n < m → slice_get xs n ≡ Some x
    → drop n (take m xs) ≡ x ∷ drop (n + 1) (take m xs)
drop_taken_found xs m n x below found = drop_found (take m xs) n x (taken_found xs m n x below found)

-- nothing is left of the first m where no item is found
pub drop_taken_missing : {A : Type 0} (xs : List A) (m n : ℕ) → slice_get xs n ≡ None → drop n (take m xs) ≡ []
drop_taken_missing xs m n missing =
    let reach : length xs ≤ n = missing_reach xs n missing in
    drop_of_length-le (take m xs) (omega (arith, length-take m xs))
