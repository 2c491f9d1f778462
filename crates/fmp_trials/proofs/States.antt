-- What a function says of each place, with one place more, and what is known of a value that there may be.
use Rattle.std.proofs.Common.{◌≡◌, ◌∙◌, ℕ, ◌+◌, List, [], ◌∷◌, ◌++◌, Ok, Err, Result, ap, arith, map, sym}
use Rattle.std.specs.List.{range_with_len}
use Rattle.std.specs.Result.{IfOk}
use Rattle.std.proofs.lemmas.List.FromFn.{map-range_with_len_more}

pub states_more : {A : Type 0} (f : ℕ → A) (n : ℕ) (xs ys : List A) (x : A) → xs ≡ map f (range_with_len 0 n)
    → ys ≡ xs ++ x ∷ [] → x ≡ f n → ys ≡ map f (range_with_len 0 (n + 1))
states_more f n xs ys x before push value =
    push ∙ ap (λ zs. zs ++ x ∷ []) before ∙ ap (λ y. map f (range_with_len 0 n) ++ y ∷ []) value
    ∙ sym (map-range_with_len_more f 0 n n (omega arith))

pub if_ok_so : {A E : Type 0} (r : Result A E) (P Q : A → Type 0) → ((x : A) → P x → Q x) → IfOk r P → IfOk r Q
if_ok_so (Ok x) P Q so h = so x h
if_ok_so (Err e) P Q so h = tt
