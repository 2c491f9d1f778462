-- What has been read of a configuration without a fault.
use Rattle.std.specs.Prelude.{◌≡◌, ℕ, List, Ok}
use Rattle.fmp_base.specs.Systems.{tables_of}
use Rattle.fmp_lex.specs.declared.token.Token.{Token}
use Rattle.fmp_lex.specs.Faults.{Spells}
use Rattle.fmp_cfgparse.specs.declared.reading.Configured.{Configured}
use Rattle.fmp_cfgparse.specs.Apis.{Making}
use Rattle.fmp_cfgparse.specs.Configuring.{configured}
use Rattle.fmp_cfgparse.specs.Grammar.{Config}
use Rattle.fmp_cfgparse.specs.Trees.{ConfigurationTree, configuration_view}

-- a configuration without a fault: its tokens, the tree that they spell, and what the tree makes
pub record ReadConfiguration (cfg : List ℕ) : Type 0 where
  pub tokens : List Token
  pub tree : ConfigurationTree
  pub spelled : Spells Config cfg tokens tree
  pub making : Making
  pub makes : configured tree ≡ Ok making

-- the configuration is read, with these tokens, this tree and these tables
pub record Reads (cfg : List ℕ) (c : Configured) : Type 0 where
  pub configuration : ReadConfiguration cfg
  pub tokens : configuration.tokens ≡ c.parsed.list.tokens
  pub tree : configuration.tree ≡ configuration_view c.parsed.tree
  pub tables : configuration.making.tables ≡ tables_of c.system
