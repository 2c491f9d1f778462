-- Names of objects and bodies.
use Rattle.std.specs.Prelude.{ℕ, List, take, length, replicate, ◌-◌, ◌++◌}
use Rattle.fmp_base.specs.declared.names.Name.{Name}

-- the bytes of a name
abbrev pub name_text : Name → List ℕ
name_text n = take n.length n.bytes

-- the name of these bytes, of which there are at most 31
abbrev pub name_from : List ℕ → Name
name_from text = record { length = length text; bytes = text ++ replicate (31 - length text) 0 }
