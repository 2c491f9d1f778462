-- The locals of a body and their places: each variable has as many as its declaration says, one after another in order
-- of declaration, and `exinf` has the first.
use Rattle.std.specs.Prelude.{ℕ, ◌+◌, ℤ, pos, negsuc, List, [], ◌∷◌, map, take, slice_get, Option, Some, None, is_some}
use Rattle.std.specs.Prelude.{Bool, false, codes}
use Rattle.fmp_base.specs.declared.names.Name.{Name}
use Rattle.fmp_base.specs.Names.{name_from}
use Rattle.fmp_tasklang.specs.declared.trees.Declaration.{Declaration}
use Rattle.fmp_tasklang.specs.declared.trees.Length.{Length}
use Rattle.fmp_tasklang.specs.Trees.{BodyTree}

-- a local: its name, whether it is an array, and how many places it has
pub record Local : Type 0 where
  pub name : Name
  pub is_array : Bool
  pub places : ℕ

-- the places that a length names; a negative one names none
abbrev pub magnitude : ℤ → ℕ
magnitude (pos n) = n
magnitude (negsuc n) = 0

-- a plain variable has one place, an array as many as its length
abbrev pub places_of : Option Length → ℕ
places_of None = 1
places_of (Some l) = magnitude l.places

abbrev pub local_of : Declaration → Local
local_of d = record { name = d.name.name; is_array = is_some d.length; places = places_of d.length }

-- the extended information of a task or a handler is its first local
abbrev pub exinf_name : Name
exinf_name = name_from (codes "exinf")

abbrev pub exinf_local : Local
exinf_local = record { name = exinf_name; is_array = false; places = 1 }

-- `exinf`, and then the declared variables in order
abbrev pub locals_of : BodyTree → List Local
locals_of body = exinf_local ∷ map local_of body.variables

-- how many places locals have together
abbrev pub total_places : List Local → ℕ
total_places [] = 0
total_places (l ∷ ls) = l.places + total_places ls

-- the first place of a local, by its number from 0: the places of those before it
abbrev pub first_place : List Local → ℕ → ℕ
first_place locals number = total_places (take number locals)

-- how many places a local has, by its number; none where there is no such local
abbrev pub places_or_none : Option Local → ℕ
places_or_none None = 0
places_or_none (Some l) = l.places

abbrev pub places_at : List Local → ℕ → ℕ
places_at locals number = places_or_none (slice_get locals number)
