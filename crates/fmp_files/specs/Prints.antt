-- What is printed piece by piece.
use Rattle.std.specs.Prelude.{ℕ, ◌≡◌, List, [], ◌∷◌, Option, map, ⊤}
use Rattle.std.specs.List.{concat}
use Rattle.fmp_files.specs.Deeds.{Deed, Does, printed}

-- these bytes were printed, in one piece or in several that follow each other, and nothing else was done
pub record Prints (before : Option (List Deed)) (bytes : List ℕ) (after : Option (List Deed)) : Type 0 where
  pub pieces : List (List ℕ)
  pub bytes_are : bytes ≡ concat pieces
  pub done : Does before (map printed pieces) after

-- a text of no bytes
abbrev pub IsEmpty : List ℕ → Type 0
IsEmpty [] = ⊤
IsEmpty (byte ∷ bytes) = ⊥

-- bytes were printed so, and if there are none, nothing was done
pub record PrintsPieces (before : Option (List Deed)) (bytes : List ℕ) (after : Option (List Deed)) : Type 0 where
  pub prints : Prints before bytes after
  pub nothing : IsEmpty bytes → Does before [] after
