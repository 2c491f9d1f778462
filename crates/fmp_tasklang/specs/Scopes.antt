-- What a name means in a body: a local variable or array, or an object of the configuration.
use Rattle.std.specs.Prelude.{ℕ, ◌+◌, List, [], ◌∷◌, Option, Some, None, map, position, slice_get, Bool, true, false}
use Rattle.std.specs.Prelude.{if◌then◌else◌}
use Rattle.std.specs.Str.{bytes_eq}
use Rattle.fmp_base.specs.declared.names.Name.{Name}
use Rattle.fmp_base.specs.Names.{name_text}
use Rattle.fmp_base.specs.Systems.{SystemTables}
use Rattle.fmp_tasklang.specs.Layout.{Local, locals_of}
use Rattle.fmp_tasklang.specs.Trees.{BodyTree}

-- the names of the objects, a table after another, and the locals in order of declaration
pub record Scope : Type 0 where
  pub objects : List (List Name)
  pub locals : List Local

-- a variable or an array by its number among the locals, from 0, or an object by its number
pub data NameMeaning : Type 0 where
  Variable : ℕ → NameMeaning
  Array : ℕ → NameMeaning
  Object : ℕ → NameMeaning
  Unknown : NameMeaning

-- the place of the first name with a text
abbrev pub place_of : List ℕ → List Name → Option ℕ
place_of text names = position (λ n. bytes_eq text (name_text n)) names

-- the names of all objects, a table after another
abbrev pub object_names : SystemTables → List (List Name)
object_names s =
    map (λ t. t.name) s.tasks ∷
    map (λ t. t.name) s.semaphores ∷
    map (λ t. t.name) s.flags ∷
    map (λ t. t.name) s.data_queues ∷
    map (λ t. t.name) s.mailboxes ∷
    map (λ t. t.name) s.messages ∷
    map (λ t. t.name) s.shared_words ∷
    map (λ t. t.name) s.spin_locks ∷
    map (λ t. t.name) s.cyclics ∷
    []

-- an object's number is one more than its place; where the first table has none, the others are looked up
abbrev pub number_or : Option ℕ → NameMeaning → NameMeaning
number_or (Some place) others = Object (place + 1)
number_or None others = others

-- the number of the object of a name, in the first table that has it
abbrev pub object_number : List ℕ → List (List Name) → NameMeaning
object_number text [] = Unknown
object_number text (names ∷ rest) = number_or (place_of text names) (object_number text rest)

-- whether there is an array of this number
abbrev pub is_array_or_none : Option Local → Bool
is_array_or_none None = false
is_array_or_none (Some l) = l.is_array

-- the local of a number
abbrev pub local_meaning : List Local → ℕ → NameMeaning
local_meaning locals number = if is_array_or_none (slice_get locals number) then Array number else Variable number

-- a local, or else an object
abbrev pub local_or : Option ℕ → Scope → List ℕ → NameMeaning
local_or (Some number) scope text = local_meaning scope.locals number
local_or None scope text = object_number text scope.objects

-- what a name means: a local of that text, else an object, else nothing
abbrev pub meaning_of : Scope → Name → NameMeaning
meaning_of scope n =
    let text = name_text n in
    local_or (place_of text (map (λ (l : Local). l.name) scope.locals)) scope text

-- the objects of a configuration and the locals of a body
abbrev pub scope_of : SystemTables → BodyTree → Scope
scope_of tables body = record { objects = object_names tables; locals = locals_of body }
