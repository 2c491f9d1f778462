-- Two lists whose items stand side by side, and are spelled so.
use Rattle.std.specs.Prelude.{ℕ, zero, suc, ◌+◌, List, [], ◌∷◌, ◌++◌, Result, Ok, Bool, true, false, ◌&&◌}
use Rattle.fmp_image_bytes.specs.declared.fault.ImageFault.{ImageFault}
use Rattle.fmp_image_bytes.specs.Fields.{◌>>=◌}

-- n pairs from the front of bytes
unfoldable pub pairs_at : {A B : Type 0} → (List ℕ → Result ((A × B) × List ℕ) ImageFault) → ℕ → List ℕ
    → Result ((List A × List B) × List ℕ) ImageFault
pairs_at pair_at zero bytes = Ok (([], []), bytes)
pairs_at pair_at (suc n) bytes = do
  first ← pair_at bytes
  others ← pairs_at pair_at n first.1
  Ok ((first.0.0 ∷ others.0.0, first.0.1 ∷ others.0.1), others.1)

abbrev pub pairs_spelled : {A B : Type 0} → (A → B → List ℕ) → List A → List B → List ℕ
pairs_spelled spell [] ys = []
pairs_spelled spell (a ∷ xs) [] = []
pairs_spelled spell (a ∷ xs) (b ∷ ys) = spell a b ++ pairs_spelled spell xs ys

-- the lists are of one length, and P holds of each pair
abbrev pub AllPairs : {A B : Type 0} → (A → B → Type 0) → List A → List B → Type 0
AllPairs P [] [] = Unit {0}
AllPairs P [] (b ∷ ys) = ⊥
AllPairs P (a ∷ xs) [] = ⊥
AllPairs P (a ∷ xs) (b ∷ ys) = P a b × AllPairs P xs ys

-- whether each pair passes a test by its place, the first of them being at this one
abbrev pub pairs_pass : {A B : Type 0} → (ℕ → A → B → Bool) → ℕ → List A → List B → Bool
pairs_pass test place [] ys = true
pairs_pass test place (a ∷ xs) [] = false
pairs_pass test place (a ∷ xs) (b ∷ ys) = test place a b && pairs_pass test (place + 1) xs ys
