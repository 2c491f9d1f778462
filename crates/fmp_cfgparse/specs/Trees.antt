-- The syntax tree of a configuration as plain data.
use Rattle.std.specs.Prelude.{ℕ, ℤ, List, [], ◌∷◌, map, Option, Some, None}
use Rattle.std.specs.declared.vec.Vec.{Vec}
use Rattle.std.specs.declared.alloc.Global.{Global}
use Rattle.fmp_base.specs.declared.names.Name.{Name}
use Rattle.fmp_base.specs.declared.words.Api.{Api}
use Rattle.fmp_cfgparse.specs.declared.tree.Item.{Item}
use Rattle.fmp_cfgparse.specs.declared.tree.Value.{Value}
use Rattle.fmp_cfgparse.specs.declared.tree.Value.TheVariants as held
use Rattle.fmp_cfgparse.specs.declared.tree.ApiField.{ApiField}
use Rattle.fmp_cfgparse.specs.declared.tree.ApiField.TheVariants as field
use Rattle.fmp_cfgparse.specs.declared.tree.StaticApi.{StaticApi}
use Rattle.fmp_cfgparse.specs.declared.tree.Class.{Class}
use Rattle.fmp_cfgparse.specs.declared.tree.Configuration.{Configuration}

-- what a static API is given at one place: items that are joined by or, or a name
pub data FieldTree : Type 0 where
  value : List Item → FieldTree
  name : Name → FieldTree

-- a static API, the place of its word, and its fields without NULL
pub record ApiTree : Type 0 where
  pub kind : Api
  pub at : ℕ
  pub fields : List FieldTree

-- a class, the place of its name, and its static APIs
pub record ClassTree : Type 0 where
  pub name : Name
  pub at : ℕ
  pub apis : List ApiTree

-- the number of processors, the place of that number, and the classes
pub record ConfigurationTree : Type 0 where
  pub processors : ℤ
  pub at : ℕ
  pub classes : List ClassTree

-- the trees that the code holds
abbrev pub items_view : Value → List Item
items_view (held.One i) = i ∷ []
items_view (held.Joined v) = v.items

abbrev pub field_view : ApiField → FieldTree
field_view (field.Value v) = value (items_view v)
field_view (field.Name n) = name n

abbrev pub part_view : Option ApiField → Option FieldTree
part_view None = None
part_view (Some f) = Some (field_view f)

abbrev pub fields_view : Vec ApiField Global → List FieldTree
fields_view v = map field_view v.items

abbrev pub api_view : StaticApi → ApiTree
api_view a = record { kind = a.kind; at = a.at; fields = map field_view a.fields.items }

abbrev pub apis_view : Vec StaticApi Global → List ApiTree
apis_view v = map api_view v.items

abbrev pub class_view : Class → ClassTree
class_view c = record { name = c.name; at = c.at; apis = map api_view c.apis.items }

abbrev pub classes_view : Vec Class Global → List ClassTree
classes_view v = map class_view v.items

abbrev pub configuration_view : Configuration → ConfigurationTree
configuration_view c = record { processors = c.processors; at = c.at; classes = map class_view c.classes.items }
