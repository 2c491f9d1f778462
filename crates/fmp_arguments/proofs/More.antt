-- Lists that grow by an element at their end.
use Rattle.std.proofs.Common.{◌≡◌, refl, sym, ap, arith, List, [], ◌∷◌, ◌++◌, append_assoc, drop, length, min, take}
use Rattle.std.proofs.Common.{Option, Some, None}
use Rattle.fmp_arguments.specs.Settings.{prepend}

pub prepend_nothing : {A : Type 0} (o : Option (List A)) → prepend [] o ≡ o
prepend_nothing None = refl
prepend_nothing (Some ys) = refl

pub prepend_more : {A : Type 0} (xs : List A) (x : A) (o : Option (List A))
    → prepend xs (prepend (x ∷ []) o) ≡ prepend (xs ++ x ∷ []) o
prepend_more xs x None = refl
prepend_more xs x (Some ys) = ap Some (sym (append_assoc xs (x ∷ []) ys))

pub take_two : {A : Type 0} (xs : List A) → take (min (length xs) 2) xs ≡ take 2 xs
take_two [] = refl
take_two (x ∷ []) = refl
take_two (x ∷ y ∷ xs) =
    let two : min (length (x ∷ y ∷ xs)) 2 ≡ 2 = omega arith in
    ap (λ n. take n (x ∷ y ∷ xs)) two

pub drop_two : {A : Type 0} (xs : List A) → drop (min (length xs) 2) xs ≡ drop 2 xs
drop_two [] = refl
drop_two (x ∷ []) = refl
drop_two (x ∷ y ∷ xs) =
    let two : min (length (x ∷ y ∷ xs)) 2 ≡ 2 = omega arith in
    ap (λ n. drop n (x ∷ y ∷ xs)) two
