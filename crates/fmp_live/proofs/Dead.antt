-- Dead locals in the rows of a table.
use Rattle.std.proofs.Common.{◌≡◌, ◌<◌, ℕ, zero, suc, Bool, true, false, List, [], ◌∷◌, length, get_or, slice_get, Some}
use Rattle.std.proofs.Common.{◌∙◌, ap, arith}
use Rattle.fmp_live.specs.LiveLocals.{is_live}

in-row : (row : List Bool) (v : ℕ) → get_or row v true ≡ false → v < length row
in-row [] v e = cc
in-row (x ∷ row) zero e = omega arith
in-row (x ∷ row) (suc v) e = omega (arith, in-row row v e)

-- a local that is dead at a place is `false` in the row of that place
pub dead-there : (rows : List (List Bool)) (place v : ℕ) (row : List Bool) → row ≡ get_or rows place []
    → is_live rows place v ≡ false → (v < length row) × (get_or row v true ≡ false)
dead-there rows place v row e dead =
    let there : get_or row v true ≡ false = ap (λ (r : List Bool). get_or r v true) e ∙ dead in
    (in-row row v there, there)

-- no local is dead at a place that has no row
pub past-rows : (rows : List (List Bool)) (place v : ℕ) → is_live rows place v ≡ false → place < length rows
past-rows [] place v e = cc
past-rows (x ∷ rows) zero v e = omega arith
past-rows (x ∷ rows) (suc place) v e = omega (arith, past-rows rows place v e)

pub read-there : {A : Type 0} (xs : List A) (i : ℕ) (x d : A) → slice_get xs i ≡ Some x → get_or xs i d ≡ x
read-there [] i x d e = cc
read-there (y ∷ xs) zero x d e = cc
read-there (y ∷ xs) (suc i) x d e = read-there xs i x d e
