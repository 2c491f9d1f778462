-- A journal is copied event by event.
use Rattle.std.proofs.Common.{◌≡◌, ◌∙◌, ◌+◌, ◌++◌, ℕ, List, [], ◌∷◌, Some, ap, slice_get, sym, take}
use Rattle.std.proofs.lemmas.List.{take_more}
use Rattle.std.proofs.lemmas.Option.{get_or_from_slice_get, slice_get_within}

pub one_copied : {X : Type 0} (xs copied more : List X) (i : ℕ) (x : X) → copied ≡ take i xs → slice_get xs i ≡ Some x
    → more ≡ copied ++ x ∷ [] → more ≡ take (i + 1) xs
one_copied {X} xs copied more i x so_far found pushed =
    pushed ∙ ap (λ (ys : List X). ys ++ x ∷ []) so_far ∙ ap (λ (y : X). take i xs ++ y ∷ [])
    (sym (get_or_from_slice_get xs i x x found))
    ∙ sym (take_more xs i x (slice_get_within xs i x found))
