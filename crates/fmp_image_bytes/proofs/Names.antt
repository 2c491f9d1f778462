-- Texts that are names of objects.
use Rattle.std.proofs.Common.{◌≡◌, ℕ, ◌<◌, ◌≤◌, Bool, true, false, ◌&&◌, List, [], ◌∷◌, length, refl, arith}
use Rattle.std.proofs.lemmas.Bool.{leb-true}
use Rattle.fmp_image_bytes.specs.Keys.{is_name, begins_and_goes_on}

pub and_true : (a b : Bool) → (a && b) ≡ true → (a ≡ true) × (b ≡ true)
and_true true true e = (refl, refl)
and_true true false e = absurd cc
and_true false b e = absurd cc

begins : (text : List ℕ) → begins_and_goes_on text ≡ true → 0 < length text
begins [] e = absurd cc
begins (b ∷ bs) e = omega arith

pub name_fits : (version : ℕ) (text : List ℕ) → is_name version text ≡ true → (0 < length text) × (length text ≤ 31)
unfolding is_name
name_fits version text e =
    let a = and_true _ _ e in
    let b = and_true _ _ a.0 in
    (begins text b.1, leb-true _ _ b.0)
