-- The names of all objects as the code keeps them: a set in order of text, in which a name is found by its bytes.
use Rattle.std.specs.Prelude.{List, map}
use Rattle.std.specs.HashSet.{HashSet}
use Rattle.fmp_base.specs.declared.names.Name.{Name}
use Rattle.fmp_lex.specs.declared.object_name.ObjectName.{ObjectName}
use Rattle.fmp_lex.specs.ObjectNames.{name_of}

-- in order of text
abbrev pub names_of : {S : Type 0} → HashSet ObjectName S → List Name
names_of set = map name_of set.keys
