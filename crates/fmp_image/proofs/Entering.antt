-- That the rows of tables name bodies that fit.
use Rattle.std.specs.Prelude.{◌≡◌, ℕ, List, Option, Some, None}
use Rattle.std.specs.List.{AllByRecursion}
use Rattle.fmp_base.specs.declared.names.Name.{Name}
use Rattle.fmp_base.specs.declared.systems.CyclicConfig.{CyclicConfig}
use Rattle.fmp_base.specs.declared.systems.Entry.{Entry}
use Rattle.fmp_base.specs.declared.systems.Entry.TheVariants as entry
use Rattle.fmp_base.specs.declared.systems.InterruptConfig.{InterruptConfig}
use Rattle.fmp_base.specs.declared.systems.TaskConfig.{TaskConfig}
use Rattle.fmp_base.specs.Systems.{SystemTables}
use Rattle.fmp_tasklang.specs.declared.trees.BodyKind.{BodyKind}
use Rattle.fmp_tasklang.specs.declared.trees.BodyKind.TheVariants.{Task, Handler}
use Rattle.fmp_tasklang.specs.Trees.{BodyTree}
use Rattle.fmp_scopes.specs.declared.entries.EntryUse.{EntryUse}
use Rattle.fmp_scopes.specs.Entries.{body_place, entry_fault}

-- the entry of an API whose word is the first token
abbrev pub wanted : Name → BodyKind → Option ℕ → EntryUse
wanted name kind stack = record { at = 0; name = name; kind = kind; stack = stack }

-- an entry names a body of this kind, for whose operands this stack has room
abbrev pub Enters : List BodyTree → BodyKind → Option ℕ → Entry → Type 0
Enters bodies kind stack (entry.Named n) = entry_fault bodies (wanted n kind stack) (body_place bodies n) ≡ None
Enters bodies kind stack (entry.Body k) = ⊥

abbrev pub TaskEnters : List BodyTree → TaskConfig → Type 0
TaskEnters bodies t = Enters bodies Task (Some t.stack) t.entry

abbrev pub CyclicEnters : List BodyTree → CyclicConfig → Type 0
CyclicEnters bodies c = Enters bodies Handler None c.entry

abbrev pub InterruptEnters : List BodyTree → InterruptConfig → Type 0
InterruptEnters bodies i = Enters bodies Handler None i.entry

-- each task, each cyclic handler and each interrupt handler does
pub record EachEnters (bodies : List BodyTree) (t : SystemTables) : Type 0 where
  pub tasks : AllByRecursion (TaskEnters bodies) t.tasks
  pub cyclics : AllByRecursion (CyclicEnters bodies) t.cyclics
  pub interrupts : AllByRecursion (InterruptEnters bodies) t.interrupts
