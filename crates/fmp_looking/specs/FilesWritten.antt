-- What is written to the files that are asked for.
use Rattle.std.specs.Prelude.{ℕ, List, [], ◌∷◌, Option, Some, None}
use Rattle.fmp_files.specs.Deeds.{Deed, wrote}

-- a text is written to its file, if one is named
abbrev pub file_written : Option (List ℕ) → (text : List ℕ) → List Deed
file_written None text = []
file_written (Some name) text = wrote name text ∷ []
