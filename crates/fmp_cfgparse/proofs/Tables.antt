-- The tables of what a text describes keep the rules of a configuration.
use Rattle.std.proofs.Common.{◌≡◌, ℕ, List, Ok, sym, subst}
use Rattle.fmp_base.specs.Systems.{tables_of}
use Rattle.fmp_base.specs.declared.systems.System.{System}
use Rattle.fmp_lex.specs.Faults.{Spells}
use Rattle.fmp_lex.specs.Reading.{kinds_of}
use Rattle.fmp_lex.specs.declared.token.Token.{Token}
use Rattle.fmp_cfgparse.specs.Apis.{Making}
use Rattle.fmp_cfgparse.specs.Configurations.{Describes}
use Rattle.fmp_cfgparse.specs.Configuring.{configured}
use Rattle.fmp_cfgparse.specs.Grammar.{Config}
use Rattle.fmp_cfgparse.specs.Tables.{IsConfiguration}
use Rattle.fmp_cfgparse.specs.Trees.{ConfigurationTree}
use Rattle.fmp_cfgparse.proofs.KnownTokens.{cuts_known}
use Rattle.fmp_cfgparse.proofs.KnownTrees.{tree_known}
use Rattle.fmp_cfgparse.proofs.Walks.{configured_keeps}

-- the text spells this tree, and that is what the tree makes
pub made_keeps : (text : List ℕ) (ts : List Token) (tree : ConfigurationTree) (g : Making)
    → Spells Config text ts tree → configured tree ≡ Ok g → IsConfiguration g.tables
made_keeps text ts tree g spelled makes =
    configured_keeps tree g (tree_known (kinds_of ts) (cuts_known text 0 ts spelled.1) tree spelled.2) makes

pub described_keeps : (text : List ℕ) (system : System) → Describes text system → IsConfiguration (tables_of system)
described_keeps text system x = subst IsConfiguration (sym x.5) (made_keeps text x.0 x.1 x.3 x.2 x.4)
