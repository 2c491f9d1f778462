-- The numbers of objects as the compiler holds them: a map in which a name is found by its bytes.
use Rattle.std.specs.Prelude.{ℕ, Option, Some, None}
use Rattle.std.specs.HashMap.{HashMap, get}
use Rattle.fmp_base.specs.declared.names.Name.{Name}
use Rattle.fmp_lex.specs.declared.object_name.ObjectName.{ObjectName}
use Rattle.fmp_lex.specs.ObjectNames.{same_bytes}
use Rattle.fmp_tasklang.specs.Scopes.{NameMeaning, Object, Unknown}

-- the object of a number, if there is one
abbrev pub object_or_none : Option ℕ → NameMeaning
object_or_none None = Unknown
object_or_none (Some number) = Object number

-- the object of a name
abbrev pub object_named : {S : Type 0} → HashMap ObjectName ℕ S → Name → NameMeaning
object_named numbers name = object_or_none (get same_bytes numbers (record { name = name }))
