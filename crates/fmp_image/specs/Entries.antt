-- The bodies that the static APIs of a configuration name.
use Rattle.std.specs.Prelude.{ℕ, List, [], ◌∷◌, Option, Some, None}
use Rattle.std.specs.List.{flat_map}
use Rattle.fmp_base.specs.declared.words.Api.{Api}
use Rattle.fmp_base.specs.declared.words.Api.TheVariants as api
use Rattle.fmp_cfgparse.specs.Trees.{FieldTree, ApiTree, ClassTree, ConfigurationTree}
use Rattle.fmp_cfgparse.specs.Values.{number_at, name_at, held}
use Rattle.fmp_tasklang.specs.declared.trees.BodyKind.TheVariants.{Task, Handler}
use Rattle.fmp_scopes.specs.declared.entries.EntryUse.{EntryUse}

-- The entry of a static API with these fields, whose word is this token: CRE_TSK names a task's body and its stack,
-- CRE_CYC and DEF_INH a handler's.
abbrev pub entry_of : Api → (at : ℕ) → List FieldTree → Option EntryUse
entry_of api.CreTsk at f =
    Some (record { at = at; name = name_at f 3; kind = Task; stack = Some (held 4294967295 (number_at f 5)) })
entry_of api.CreCyc at f = Some (record { at = at; name = name_at f 3; kind = Handler; stack = None })
entry_of api.DefInh at f = Some (record { at = at; name = name_at f 2; kind = Handler; stack = None })
entry_of _ at f = None

-- an entry, if there is one
abbrev pub alone : Option EntryUse → List EntryUse
alone None = []
alone (Some u) = u ∷ []

-- the entry of an API
abbrev pub api_uses : ApiTree → List EntryUse
api_uses a = alone (entry_of a.kind a.at a.fields)

-- the entries that the APIs of a class name, in order of text
abbrev pub class_uses : ClassTree → List EntryUse
class_uses c = flat_map api_uses c.apis

-- the entries that the APIs of a configuration name, in order of text
abbrev pub entry_uses : ConfigurationTree → List EntryUse
entry_uses tree = flat_map class_uses tree.classes
