-- What reading a configuration answers: the tables of the system, or the first fault of the first pass that has one.
use Rattle.std.specs.Prelude.{◌≡◌, ℕ, ◌⊎◌, List, slice_get, Result, Ok, Err}
use Rattle.fmp_base.specs.declared.systems.System.{System}
use Rattle.fmp_base.specs.Systems.{tables_of}
use Rattle.fmp_lex.specs.declared.token.Token.{Token}
use Rattle.fmp_lex.specs.declared.fault.BuildFault.{BuildFault}
use Rattle.fmp_lex.specs.declared.fault.BuildFault.TheVariants as build
use Rattle.fmp_lex.specs.declared.fault.TextFile.TheVariants as file
use Rattle.fmp_lex.specs.Faults.{Spells, IsSyntaxFault, offence_fault}
use Rattle.fmp_cfgparse.specs.Apis.{Making}
use Rattle.fmp_cfgparse.specs.Configuring.{Offence, configured}
use Rattle.fmp_cfgparse.specs.Grammar.{Config}
use Rattle.fmp_cfgparse.specs.Trees.{ConfigurationTree}

-- the text spells a tree that makes these tables
abbrev pub Describes : List ℕ → System → Type 0
Describes text system =
    (ts : List Token)
    × (tree : ConfigurationTree)
    × Spells Config text ts tree
    × (g : Making) × (configured tree ≡ Ok g) × (tables_of system ≡ g.tables)

-- the text spells a tree whose first offence is this fault
abbrev pub IsOffence : List ℕ → BuildFault → Type 0
IsOffence text f =
    (ts : List Token)
    × (tree : ConfigurationTree) × Spells Config text ts tree × (o : Offence) × (configured tree ≡ Err o) ×
    (f ≡ offence_fault file.Configuration (slice_get ts o.at) o.why)

-- the first fault of a text: of its syntax, else of what it makes
abbrev pub IsFault : List ℕ → BuildFault → Type 0
IsFault text f = IsSyntaxFault file.Configuration Config text f ⊎ IsOffence text f

abbrev pub IsRead : List ℕ → Result System BuildFault → Type 0
IsRead text (Ok system) = Describes text system
IsRead text (Err build.Memory) = Unit {0}
IsRead text (Err (build.At f place why)) = IsFault text (build.At f place why)
