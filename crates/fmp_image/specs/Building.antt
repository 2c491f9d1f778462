-- Building: from the texts of a system to its image.
use Rattle.std.specs.Prelude.{◌≡◌, ℕ, List, [], map, Some, None}
use Rattle.fmp_base.specs.declared.systems.CyclicConfig.{CyclicConfig}
use Rattle.fmp_base.specs.declared.systems.Entry.{Entry}
use Rattle.fmp_base.specs.declared.systems.Entry.TheVariants as entry
use Rattle.fmp_base.specs.declared.systems.InterruptConfig.{InterruptConfig}
use Rattle.fmp_base.specs.declared.systems.TaskConfig.{TaskConfig}
use Rattle.fmp_base.specs.Systems.{SystemTables, found}
use Rattle.fmp_lex.specs.declared.fault.BuildFault.{BuildFault}
use Rattle.fmp_lex.specs.declared.fault.BuildFault.TheVariants as build
use Rattle.fmp_lex.specs.declared.fault.TextFile.TheVariants as file
use Rattle.fmp_lex.specs.declared.token.Token.{Token}
use Rattle.fmp_lex.specs.Faults.{Spells, IsSyntaxFault}
use Rattle.fmp_cfgparse.specs.Configurations.{IsFault}
use Rattle.fmp_cfgparse.specs.Configured.{ReadConfiguration}
use Rattle.fmp_tasklang.specs.declared.trees.BodyKind as language
use Rattle.fmp_tasklang.specs.declared.trees.BodyKind.TheVariants as written
use Rattle.fmp_tasklang.specs.Grammar.{Bodies}
use Rattle.fmp_tasklang.specs.Trees.{BodyTree}
use Rattle.fmp_scopes.specs.declared.headings.Heading.{Heading}
use Rattle.fmp_scopes.specs.declared.offences.Offence.{Offence}
use Rattle.fmp_codegen.specs.Compiling.{bodies_offence, compiled, IsAccepted}
use Rattle.fmp_scopes.specs.Depths.{body_depth}
use Rattle.fmp_scopes.specs.Entries.{body_place, entries_offence}
use Rattle.fmp_scopes.specs.Naming.{fault_in}
use Rattle.fmp_image_bytes.specs.declared.heads.BodyHead.{BodyHead}
use Rattle.fmp_image_bytes.specs.declared.heads.BodyKind.{BodyKind}
use Rattle.fmp_image_bytes.specs.declared.heads.BodyKind.TheVariants as kind
use Rattle.fmp_image_bytes.specs.Versions.{newest}
use Rattle.fmp_image_bytes.specs.Images.{ImageTables, image_tables}
use Rattle.fmp_image.specs.Entries.{entry_uses}

-- a name of a body becomes the body's number
abbrev pub built_entry : List BodyTree → Entry → Entry
built_entry bodies (entry.Named n) = entry.Body (found 0 (body_place bodies n))
built_entry bodies (entry.Body k) = entry.Body k

-- a row with the number of its body
abbrev pub built_task : List BodyTree → TaskConfig → TaskConfig
built_task bodies t = record t { entry = built_entry bodies t.entry }

abbrev pub built_cyclic : List BodyTree → CyclicConfig → CyclicConfig
built_cyclic bodies c = record c { entry = built_entry bodies c.entry }

abbrev pub built_interrupt : List BodyTree → InterruptConfig → InterruptConfig
built_interrupt bodies i = record i { entry = built_entry bodies i.entry }

-- the same tables, with numbers of bodies in place of their names
abbrev pub built_tables : List BodyTree → SystemTables → SystemTables
built_tables bodies t =
    record t {
      tasks = map (built_task bodies) t.tasks;
      cyclics = map (built_cyclic bodies) t.cyclics;
      interrupts = map (built_interrupt bodies) t.interrupts;
    }

abbrev pub built_kind : language.BodyKind → BodyKind
built_kind written.Task = kind.Task
built_kind written.Handler = kind.Handler

-- what an image says of a body: its kind, and how many operands it needs
abbrev pub built_head : BodyTree → BodyHead
built_head b = record { kind = built_kind b.kind; depth = body_depth b }

-- the same of its heading
abbrev pub head_of : Heading → BodyHead
head_of h = record { kind = built_kind h.kind; depth = h.depth }

abbrev pub built_heads : List BodyTree → List BodyHead
built_heads bodies = map built_head bodies

-- a task text without a fault of syntax: its tokens, and the bodies that they spell
pub record ReadTasks (src : List ℕ) : Type 0 where
  pub tokens : List Token
  pub bodies : List BodyTree
  pub spelled : Spells Bodies src tokens bodies

-- the image of tables and bodies, of the newest version
abbrev pub built_image : SystemTables → List BodyTree → ImageTables
built_image tables bodies =
    image_tables newest (built_tables bodies tables) (built_heads bodies) (compiled tables bodies)

-- Two texts build an image: both are read, no body has a fault over the objects of the configuration, nor has an entry.
pub record Builds (cfg src : List ℕ) (i : ImageTables) : Type 0 where
  pub configuration : ReadConfiguration cfg
  pub tasks : ReadTasks src
  pub accepted : IsAccepted configuration.making.tables tasks.bodies
  pub entered : entries_offence tasks.bodies (entry_uses configuration.tree) ≡ None
  pub image : i ≡ built_image configuration.making.tables tasks.bodies

-- Why two texts build none. The configuration is judged first, its syntax and what it makes; then the syntax of the
-- task text, then its bodies, and last the entries. The first of these that has a fault gives it: its first one.
pub data IsBuildFault (cfg src : List ℕ) (f : BuildFault) : Type 0 where
  of_memory : f ≡ build.Memory → IsBuildFault cfg src f
  of_configuration : IsFault cfg f → IsBuildFault cfg src f
  of_tasks : ReadConfiguration cfg → IsSyntaxFault file.Source Bodies src f → IsBuildFault cfg src f
  of_bodies :
      (c : ReadConfiguration cfg) (t : ReadTasks src) (o : Offence) →
      bodies_offence c.making.tables [] t.bodies ≡ Some o →
      f ≡ fault_in file.Source t.tokens o →
      IsBuildFault cfg src f
  of_entries :
      (c : ReadConfiguration cfg) (t : ReadTasks src) (o : Offence) →
      IsAccepted c.making.tables t.bodies →
      entries_offence t.bodies (entry_uses c.tree) ≡ Some o →
      f ≡ fault_in file.Configuration c.tokens o →
      IsBuildFault cfg src f
