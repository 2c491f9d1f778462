-- A name that is a variable has one place among the locals of its body, and the places of an array stand together.
use Rattle.std.proofs.Common.{◌≡◌, ℕ, zero, suc, ◌+◌, ◌<◌, ◌≤◌, Bool, true, false, List, [], ◌∷◌, length, map, Option}
use Rattle.std.proofs.Common.{Some, None, refl, ap, subst, arith}
use Rattle.std.specs.Prelude.{slice_get, is_some, if◌then◌else◌}
use Rattle.std.specs.Str.{bytes_eq}
use Rattle.std.proofs.lemmas.List.{length-map}
use Rattle.std.proofs.lemmas.List.Quantifiers.{position-Some}
use Rattle.fmp_base.specs.declared.names.Name.{Name}
use Rattle.fmp_base.specs.Names.{name_text}
use Rattle.fmp_base.specs.Systems.{SystemTables}
use Rattle.fmp_tasklang.specs.declared.trees.Declaration.{Declaration}
use Rattle.fmp_tasklang.specs.declared.trees.Length.{Length}
use Rattle.fmp_tasklang.specs.Layout.{Local, local_of, places_of, exinf_name, total_places, first_place, places_at}
use Rattle.fmp_tasklang.specs.Scopes.{Scope, NameMeaning, Variable, Array, Object, Unknown, place_of, object_number}
use Rattle.fmp_tasklang.specs.Scopes.{number_or, is_array_or_none, local_or, meaning_of, scope_of}
use Rattle.fmp_tasklang.specs.Trees.{BodyTree}
use Rattle.fmp_scopes.specs.Scopes.{locals_with}

-- ---- what a name means among the locals

-- the number of a local
abbrev local_number : NameMeaning → Option ℕ
local_number (Variable v) = Some v
local_number (Array v) = Some v
local_number (Object k) = None
local_number Unknown = None

no_local : (o : Option ℕ) (m : NameMeaning) → local_number m ≡ None → local_number (number_or o m) ≡ None
no_local (Some place) m h = refl
no_local None m h = h

object_no_local : (text : List ℕ) (names : List (List Name)) → local_number (object_number text names) ≡ None
object_no_local text [] = refl
object_no_local text (ns ∷ rest) = no_local (place_of text ns) (object_number text rest) (object_no_local text rest)

-- the local of a number, with the array or the variable that it is
record IsLocal (locals : List Local) (o : Option ℕ) (v : ℕ) (is_array : Bool) : Type 0 where
  found : o ≡ Some v
  array : is_array_or_none (slice_get locals v) ≡ is_array

chosen_variable : (b : Bool) (k v : ℕ) → (if b then Array k else Variable k) ≡ Variable v → (b ≡ false) × (k ≡ v)
chosen_variable true k v h = absurd (cc h)
chosen_variable false k v h = (refl, cc h)

chosen_array : (b : Bool) (k v : ℕ) → (if b then Array k else Variable k) ≡ Array v → (b ≡ true) × (k ≡ v)
chosen_array true k v h = (refl, cc h)
chosen_array false k v h = absurd (cc h)

variable_found :
    (o : Option ℕ) (scope : Scope) (text : List ℕ) (v : ℕ) → local_or o scope text ≡ Variable v →
    IsLocal scope.locals o v false
variable_found (Some k) scope text v h =
    let c = chosen_variable (is_array_or_none (slice_get scope.locals k)) k v h in
    record {
      found = ap Some c.1;
      array = subst (λ n. is_array_or_none (slice_get scope.locals n) ≡ false) c.1 c.0;
    }
variable_found None scope text v h =
    let none = object_no_local text scope.objects in
    let some = ap local_number h in
    absurd (cc (none, some))

array_found :
    (o : Option ℕ) (scope : Scope) (text : List ℕ) (v : ℕ) → local_or o scope text ≡ Array v →
    IsLocal scope.locals o v true
array_found (Some k) scope text v h =
    let c = chosen_array (is_array_or_none (slice_get scope.locals k)) k v h in
    record {
      found = ap Some c.1;
      array = subst (λ n. is_array_or_none (slice_get scope.locals n) ≡ true) c.1 c.0;
    }
array_found None scope text v h =
    let none = object_no_local text scope.objects in
    let some = ap local_number h in
    absurd (cc (none, some))

local_below :
    (locals : List Local) (text : List ℕ) (v : ℕ) → place_of text (map (λ (l : Local). l.name) locals) ≡ Some v →
    v < length locals
local_below locals text v h =
    let names = map (λ (l : Local). l.name) locals in
    let below = (position-Some (λ (m : Name). bytes_eq text (name_text m)) names v exinf_name h).0 in
    omega (arith, below, length-map locals (λ (l : Local). l.name))

-- ---- places

pub below-all : (ls : List Local) (v : ℕ) → first_place ls v + places_at ls v ≤ total_places ls
below-all [] zero = omega arith
below-all [] (suc v) = omega arith
below-all (l ∷ ls) zero = omega arith
below-all (l ∷ ls) (suc v) = omega (arith, below-all ls v)

plain_length : (o : Option Length) → is_some o ≡ false → places_of o ≡ 1
plain_length None h = refl
plain_length (Some l) h = absurd (cc h)

plain_declared :
    (ds : List Declaration) (v : ℕ) → v < length (map local_of ds) →
    is_array_or_none (slice_get (map local_of ds) v) ≡ false → places_at (map local_of ds) v ≡ 1
plain_declared [] v lt h = absurd (omega (arith, lt))
plain_declared (d ∷ ds) zero lt h = plain_length d.length h
plain_declared (d ∷ ds) (suc v) lt h = plain_declared ds v (omega (arith, lt)) h

plain_local :
    (ds : List Declaration) (v : ℕ) → v < length (locals_with ds) →
    is_array_or_none (slice_get (locals_with ds) v) ≡ false → places_at (locals_with ds) v ≡ 1
plain_local ds zero lt h = refl
plain_local ds (suc v) lt h = plain_declared ds v (omega (arith, lt)) h

-- a name that is a variable has one place
abbrev pub IsPlain : Scope → Type 0
IsPlain scope = (n : Name) (v : ℕ) → meaning_of scope n ≡ Variable v → places_at scope.locals v ≡ 1

pub locals-plain : (tables : SystemTables) (body : BodyTree) → IsPlain (scope_of tables body)
locals-plain tables body n v h =
    let scope = scope_of tables body in
    let text = name_text n in
    let f = variable_found (place_of text (map (λ (l : Local). l.name) scope.locals)) scope text v h in
    plain_local body.variables v (local_below scope.locals text v f.found) f.array

-- each declared variable has a place
abbrev pub HasPlaces : List Declaration → Type 0
HasPlaces ds = (k : ℕ) → k < length ds → 1 ≤ places_at (map local_of ds) k

-- an array has one place or more, after `exinf`
pub record IsArray (locals : List Local) (v : ℕ) : Type 0 where
  pub behind : 1 ≤ first_place locals v
  pub some : 1 ≤ places_at locals v

-- plain variables have one place, and arrays have places after `exinf`
pub record IsLaidOut (scope : Scope) : Type 0 where
  pub plain : IsPlain scope
  pub arrays : (n : Name) (v : ℕ) → meaning_of scope n ≡ Array v → IsArray scope.locals v

array_local :
    (ds : List Declaration) (v : ℕ) → HasPlaces ds → v < length (locals_with ds) →
    is_array_or_none (slice_get (locals_with ds) v) ≡ true → IsArray (locals_with ds) v
array_local ds zero has lt h = absurd (cc h)
array_local ds (suc v) has lt h =
    record {
      behind = omega arith;
      some = has v (omega (arith, lt, length-map ds local_of));
    }

pub laid-out : (tables : SystemTables) (body : BodyTree) → HasPlaces body.variables → IsLaidOut (scope_of tables body)
laid-out tables body has =
    let scope = scope_of tables body in
    record {
      plain = locals-plain tables body;
      arrays = λ n v h.
          let text = name_text n in
          let f = array_found (place_of text (map (λ (l : Local). l.name) scope.locals)) scope text v h in
          array_local body.variables v has (local_below scope.locals text v f.found) f.array;
    }
