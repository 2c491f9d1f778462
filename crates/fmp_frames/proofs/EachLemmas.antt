-- What a function says of each place, with one place more.
use Rattle.std.proofs.Common.{◌≡◌, ℕ, ◌+◌, List, [], ◌∷◌, ◌++◌, sym, arith, ap, ◌∙◌}
use Rattle.std.proofs.lemmas.List.FromFn.{map-range_with_len_more}
use Rattle.fmp_frames.specs.Frames.{each}

pub each-more : {A : Type 0} (f : ℕ → A) (n : ℕ) (xs ys : List A) (x : A) → xs ≡ each f n → ys ≡ xs ++ x ∷ [] → x ≡ f n
    → ys ≡ each f (n + 1)
each-more f n xs ys x before push value =
    push ∙ ap (λ zs. zs ++ x ∷ []) before ∙ ap (λ y. each f n ++ y ∷ []) value
    ∙ sym (map-range_with_len_more f 0 n n (omega arith))
