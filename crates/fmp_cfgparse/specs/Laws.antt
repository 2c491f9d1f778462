-- What holds of the configuration: a list of tokens spells at most one tree, a text has at most one answer, and
-- what it describes keeps the rules of a configuration, so that it is in range.
use Rattle.std.specs.Prelude.{◌≡◌, ℕ, List}
use Rattle.fmp_base.specs.declared.systems.System.{System}
use Rattle.fmp_base.specs.Systems.{tables_of}
use Rattle.fmp_lex.specs.declared.fault.BuildFault.{BuildFault}
use Rattle.fmp_lex.specs.declared.token.TokenKind.{TokenKind}
use Rattle.fmp_lex.specs.Reading.{IsWhole}
use Rattle.fmp_cfgparse.specs.Configurations.{Describes, IsFault}
use Rattle.fmp_cfgparse.specs.Grammar.{Config}
use Rattle.fmp_cfgparse.specs.Tables.{IsConfiguration}
use Rattle.fmp_cfgparse.specs.Trees.{ConfigurationTree}

abbrev pub SpellsOneTree : Type 0
SpellsOneTree = (ts : List TokenKind) (a b : ConfigurationTree) → IsWhole Config ts a → IsWhole Config ts b → b ≡ a

-- a text describes at most one system, or has at most one first fault, and never both
pub record HasOneAnswer (text : List ℕ) : Type 0 where
  pub one_system : (a b : System) → Describes text a → Describes text b → tables_of a ≡ tables_of b
  pub one_fault : (f g : BuildFault) → IsFault text f → IsFault text g → f ≡ g
  pub not_both : (s : System) (f : BuildFault) → Describes text s → IsFault text f → ⊥

-- the tables of what a text describes keep the rules of a configuration
abbrev pub DescribesInRange : Type 0
DescribesInRange = (text : List ℕ) (system : System) → Describes text system → IsConfiguration (tables_of system)
