-- The constants that are known while a configuration of C is read.
use Rattle.std.specs.Prelude.{◌≡◌, ◌||◌, ℕ, List, [], ◌∷◌, ◌++◌, ℤ, pos, Option, Some, None, Bool, true, false}
use Rattle.std.specs.Prelude.{bytes_eq, codes, find, if◌then◌else◌, option_map}
use Rattle.std.specs.List.{list_any}
use Rattle.std.specs.Option.{option_or}
use Rattle.fmp_base.specs.Names.{name_from, name_text}
use Rattle.fmp_base.specs.Words.{constant_named, constant_value}
use Rattle.fmp_import.specs.declared.constants.Definition.{Definition}
use Rattle.fmp_import.specs.declared.terms.Term.{Term}

-- the limits of priorities of tasks and of messages
abbrev pub limit_value : (word : List ℕ) → Option ℤ
limit_value word =
    if bytes_eq word (codes "TMIN_TPRI") then Some (pos 1)
    else if bytes_eq word (codes "TMAX_TPRI") || bytes_eq word (codes "TMAX_MPRI") then Some (pos 16)
    else None

-- the value of a name that is known from the first: no memory, what `export` writes for a stack, limits, and constants
-- of uITRON
abbrev pub own_value : (word : List ℕ) → Option ℤ
own_value word =
    if bytes_eq word (codes "NULL") || bytes_eq word (codes "FMP_STACK") then Some (pos 0)
    else option_or (limit_value word) (option_map constant_value (constant_named word))

abbrev pub value_or : Option ℤ → Option Definition → Option ℤ
value_or own None = own
value_or own (Some d) = Some d.value

-- what stands for a name: its first definition counts
abbrev pub defined : List Definition → (word : List ℕ) → Option Definition
defined ds word = find (λ d. bytes_eq (name_text d.name) word) ds

-- something stands for a name
abbrev pub is_defined : List Definition → (word : List ℕ) → Bool
is_defined ds word = list_any (λ d. bytes_eq (name_text d.name) word) ds

-- the value of a name
abbrev pub value_named : List Definition → (word : List ℕ) → Option ℤ
value_named ds word = value_or (own_value word) (defined ds word)

abbrev pub terms_or_none : Option Definition → List Term
terms_or_none None = []
terms_or_none (Some d) = d.terms.items

-- the terms that replace a name, if its value does not
abbrev pub terms_named : List Definition → (word : List ℕ) → List Term
terms_named ds word = terms_or_none (defined ds word)

-- there are further definitions, which come last
abbrev pub HasMore : (before after : List Definition) → Type 0
HasMore before after = (more : List Definition) × (after ≡ before ++ more)

-- a definition of this name was added, or none
abbrev pub HasDefined : (before after : List Definition) → (word : List ℕ) → Bool → Type 0
HasDefined before after word true = (d : Definition) × (d.name ≡ name_from word) × (after ≡ before ++ d ∷ [])
HasDefined before after word false = after ≡ before

-- a definition was added, or none
abbrev pub HasGiven : (before after : List Definition) → Bool → Type 0
HasGiven before after true = (d : Definition) × (after ≡ before ++ d ∷ [])
HasGiven before after false = after ≡ before
