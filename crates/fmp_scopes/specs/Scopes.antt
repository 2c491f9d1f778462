-- The names of a body as the compiler holds them.
use Rattle.std.specs.Prelude.{◌≡◌, ◌<◌, ◌≤◌, ℕ, ◌∷◌, List, length, map, slice_index, Option, IfSome, Bool}
use Rattle.std.specs.HashMap.{HashMap}
use Rattle.fmp_base.specs.declared.names.Name.{Name}
use Rattle.fmp_base.specs.Names.{name_text}
use Rattle.fmp_base.specs.Systems.{SystemTables, tables_of}
use Rattle.fmp_tasklang.specs.declared.trees.Declaration.{Declaration}
use Rattle.fmp_lex.specs.declared.object_name.ObjectName.{ObjectName}
use Rattle.fmp_tasklang.specs.Layout.{Local, local_of, exinf_local, first_place, total_places}
use Rattle.fmp_tasklang.specs.Scopes.{Scope, NameMeaning, Variable, Array, Object, Unknown, object_names, object_number}
use Rattle.fmp_tasklang.specs.Scopes.{number_or, place_of}
use Rattle.fmp_scopes.specs.declared.names.Meaning.{Meaning}
use Rattle.fmp_scopes.specs.declared.names.Meaning.TheVariants as meaning
use Rattle.fmp_scopes.specs.declared.names.Names.{Names}
use Rattle.fmp_scopes.specs.declared.names.Objects.{Objects}
use Rattle.fmp_scopes.specs.Naming.{is_known}
use Rattle.fmp_scopes.specs.Numbers.{object_named}

-- `exinf`, and then these declared variables
abbrev pub locals_with : List Declaration → List Local
locals_with declared = exinf_local ∷ map local_of declared

abbrev pub scope_view : Names → Scope
scope_view n =
    record {
      objects = object_names (tables_of n.objects.system.now);
      locals = locals_with n.variables.now;
    }

-- whether some object has this name
abbrev pub is_object : SystemTables → Name → Bool
is_object tables name = is_known (object_number (name_text name) (object_names tables))

abbrev pub meaning_view : Meaning → NameMeaning
meaning_view (meaning.Variable v) = Variable v
meaning_view (meaning.Array v) = Array v
meaning_view (meaning.Object k) = Object k
meaning_view meaning.Unknown = Unknown

-- each name has the number of its object
pub record HoldsNumbers (o : Objects) : Type 0 where
  pub held :
      (name : Name) →
      object_named o.numbers.now name ≡ object_number (name_text name) (object_names (tables_of o.system.now))

-- each variable is found by its name, where their numbers are given
abbrev pub AreNumbers : {S : Type 0} → Option (HashMap ObjectName ℕ S) → List Declaration → Type 0
AreNumbers numbers variables =
    IfSome numbers (λ m.
    (name : Name) → object_named m name ≡ number_or (place_of (name_text name) (map (λ d. d.name.name) variables))
    Unknown)

-- these are first places of locals, in order
abbrev pub ArePlaces : List ℕ → List Declaration → Type 0
ArePlaces places variables =
    (number : ℕ) → number < length places → slice_index places number ≡ first_place (locals_with variables) number

-- each object and each variable is found by its name, and the locals have at most 64 places
pub record IsHeld (n : Names) : Type 0 where
  pub objects : HoldsNumbers n.objects
  pub variables : length n.variables.now ≤ 63
  pub places : total_places (locals_with n.variables.now) ≤ 64
  pub numbers : AreNumbers n.numbers.now n.variables.now
  pub firsts : ArePlaces n.places.now n.variables.now
