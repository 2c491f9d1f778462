-- What holds of the elements of a list up to a place.
use Rattle.std.proofs.Common.{◌≡◌, ℕ, ◌+◌, ◌<◌, List, Some, ap, ◌∙◌, subst, arith, ⊎_elim}
use Rattle.std.specs.Prelude.{get_or, slice_get}
use Rattle.std.proofs.lemmas.Bool.{cases_lt}
use Rattle.std.proofs.lemmas.Option.{get_or_from_slice_get}

-- it holds of each element before place i
abbrev pub EachBefore : {X : Type 0} → (X → Type 0) → List X → ℕ → Type 0
EachBefore {X} P xs i = (k : ℕ) (x : X) → k < i → slice_get xs k ≡ Some x → P x

pub each-more : {X : Type 0} (P Q : X → Type 0) (xs : List X) (i : ℕ) → EachBefore P xs i
    → ((x : X) → P x → Q x) → ((x : X) → slice_get xs i ≡ Some x → Q x) → EachBefore Q xs (i + 1)
each-more P Q xs i before kept now k x lt e =
    ⊎_elim (λ below. kept x (before k x below e))
    (λ le.
    let at : k ≡ i = omega (arith, lt, le) in
    now x (subst (λ n. slice_get xs n ≡ Some x) at e))
    (cases_lt k i)

-- what stands at a place of one list is read of a list that is equal
pub read-at : {X : Type 0} (xs ys : List X) (i : ℕ) (d x : X) → xs ≡ ys → slice_get ys i ≡ Some x → get_or xs i d ≡ x
read-at {X} xs ys i d x e at = ap (λ (zs : List X). get_or zs i d) e ∙ get_or_from_slice_get ys i x d at
