-- The names of objects as keys: one is found by its bytes.
use Rattle.std.specs.Prelude.{Bool}
use Rattle.std.specs.Str.{bytes_eq}
use Rattle.fmp_base.specs.declared.names.Name.{Name}
use Rattle.fmp_base.specs.Names.{name_text}
use Rattle.fmp_lex.specs.declared.object_name.ObjectName.{ObjectName}

-- the name that a key holds
abbrev pub name_of : ObjectName → Name
name_of key = key.name

-- two keys are equal
abbrev pub same_bytes : ObjectName → ObjectName → Bool
same_bytes a b = bytes_eq (name_text a.name) (name_text b.name)
