-- Tokens by their places in a list.
use Rattle.std.proofs.Common.{◌≡◌, ◌∙◌, ◌+◌, ◌++◌, ap, sym, ℕ, List, [], ◌∷◌, Some, append_assoc, drop, slice_get}
use Rattle.std.proofs.lemmas.Option.{get_or_from_slice_get, slice_get_within}
use Rattle.fmp_scopes.proofs.Loops.{drop-step}

-- the token at a place, and those after it
pub held : {X : Type 0} (ts : List X) (i : ℕ) (t : X) → slice_get ts i ≡ Some t → drop i ts ≡ t ∷ drop (i + 1) ts
held ts i t e = drop-step ts i t (slice_get_within ts i t e) (sym (get_or_from_slice_get ts i t t e))

-- the token at a place goes over to a list of those before it
pub moved :
    {X : Type 0} (ts before : List X) (i : ℕ) (t : X) → slice_get ts i ≡ Some t →
    (before ++ t ∷ []) ++ drop (i + 1) ts ≡ before ++ drop i ts
moved ts before i t e =
    append_assoc before (t ∷ []) (drop (i + 1) ts) ∙ ap (λ xs. before ++ xs) (sym (held ts i t e))
