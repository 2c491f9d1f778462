-- The known name that is nearest to a name.
use Rattle.std.specs.Prelude.{◌≡◌, ℕ, ◌*◌, ◌<◌, ◌≤◌, ◌&&◌, nat_eq, nat_lt, nat_le, Bool, true, false, List, [], ◌∷◌}
use Rattle.std.specs.Prelude.{length, map, slice_index, Option, Some, None, ◌++◌, codes, slice_get}
use Rattle.std.specs.List.{position}
use Rattle.std.specs.Option.{option_and_then, option_or}
use Rattle.std.specs.Str.{str_eq_ignore_ascii_case}
use Rattle.fmp_base.specs.declared.names.Name.{Name}
use Rattle.fmp_base.specs.Names.{name_text}
use Rattle.fmp_diagnosis.specs.Words.{quoted}
use Rattle.strsim.specs.Edits.{damerau}

-- how many steps make the second text of the first: each puts in, leaves out or changes a byte, or swaps two neighbours
abbrev pub steps_between : List ℕ → List ℕ → ℕ
steps_between [] ys = length ys
steps_between (x ∷ xs) [] = length (x ∷ xs)
steps_between (x ∷ xs) (y ∷ ys) = damerau nat_eq (x ∷ xs) (y ∷ ys)

abbrev pub distance : Name → Name → ℕ
distance from to = steps_between (name_text from) (name_text to)

abbrev pub distances : Name → List Name → List ℕ
distances name known = map (distance name) known

-- the distance at which a name is taken for another: at most 2, and less than half of its length
abbrev pub is_near : Name → ℕ → Bool
is_near name d = nat_le d 2 && nat_lt (2 * d) (length (name_text name))

-- the least of these numbers stands at k, and at no place before
pub record IsFirstLeast (ns : List ℕ) (k : ℕ) : Type 0 where
  pub within : k < length ns
  pub before : (j : ℕ) → j < k → slice_index ns k < slice_index ns j
  pub least : (j : ℕ) → j < length ns → slice_index ns k ≤ slice_index ns j

-- the place of the nearest of the known names, the first one of several; none if none is near
abbrev pub IsNearest : Name → List Name → Option ℕ → Type 0
IsNearest name known (Some k) =
    IsFirstLeast (distances name known) k × (is_near name (slice_index (distances name known) k) ≡ true)
IsNearest name known None =
    (j : ℕ) → j < length known → is_near name (slice_index (distances name known) j) ≡ false

-- the same letters, each in either case
abbrev pub is_other_case : Name → Name → Bool
is_other_case name known = str_eq_ignore_ascii_case (name_text known) (name_text name)

-- the place of the known name that was meant: the nearest one, else the first one of the same letters
abbrev pub IsMeant : Name → List Name → Option ℕ → Type 0
IsMeant name known place =
    (near : Option ℕ)
    × IsNearest name known near
    × (place ≡ option_or near (position (is_other_case name) known))

-- what is asked of the name that was meant
abbrev pub question : Name → List ℕ
question name = codes "; did you mean " ++ quoted (name_text name) ++ codes "?"

abbrev pub asked : Option Name → List ℕ
asked (Some name) = question name
asked None = []

-- this known name was meant by a name, if one was
abbrev pub IsMeantName : Name → List Name → Option Name → Type 0
IsMeantName name known found =
    (place : Option ℕ) × IsMeant name known place × (found ≡ option_and_then (λ k. slice_get known k) place)

-- a text has grown by the question whether the known name was meant that resembles a name, if one does
abbrev pub IsAsked : Name → List Name → (before after : List ℕ) → Type 0
IsAsked name known before after =
    (found : Option Name) × IsMeantName name known found × (after ≡ before ++ asked found)
