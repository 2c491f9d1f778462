-- What a program does outside of itself.
use Rattle.std.specs.Prelude.{ℕ, ◌≡◌, ◌++◌, ◌⊎◌, Bool, true, false, List, [], ◌∷◌, Option, None, Some, Result, Ok, Err}
use Rattle.std.specs.Prelude.{take, ⊤}

-- the file of this name has these bytes and no others; it is there no more; bytes stand on standard output; a text on
-- standard error
pub data Deed : Type 0 where
  wrote : (name bytes : List ℕ) → Deed
  removed : (name : List ℕ) → Deed
  printed : (bytes : List ℕ) → Deed
  said : (text : List ℕ) → Deed

-- these deeds followed what was done before, where that is known
abbrev pub Does : (before : Option (List Deed)) → List Deed → (after : Option (List Deed)) → Type 0
Does None deeds after = ⊤
Does (Some before) deeds None = ⊥
Does (Some before) deeds (Some after) = after ≡ before ++ deeds

-- nothing was done, or it was done with a beginning of the bytes
abbrev pub Begins : (List ℕ → Deed) → (bytes : List ℕ) → (before after : Option (List Deed)) → Type 0
Begins deed bytes before after = Does before [] after ⊎ ((count : ℕ) × Does before (deed (take count bytes) ∷ []) after)

-- some text was said
abbrev pub Says : (before after : Option (List Deed)) → Type 0
Says before after = (text : List ℕ) × Does before (said text ∷ []) after

-- what was done where a file was to be removed, by whether there was one: nothing where that failed
abbrev pub removal : {E : Type 0} → (name : List ℕ) → Result Bool E → List Deed
removal name (Ok true) = removed name ∷ []
removal name (Ok false) = []
removal name (Err e) = []
