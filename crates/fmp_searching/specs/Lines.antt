-- Texts of what stands at one place of two lists.
use Rattle.std.specs.Prelude.{ℕ, ◌+◌, List, [], ◌∷◌, ◌++◌}

-- the texts of each two that stand at one place of two lists: the first two have this number
abbrev pub numbered : {A B : Type 0} → (ℕ → A → B → List ℕ) → (number : ℕ) → List A → List B → List ℕ
numbered f number [] ys = []
numbered f number (x ∷ xs) [] = []
numbered f number (x ∷ xs) (y ∷ ys) = f number x y ++ numbered f (number + 1) xs ys
