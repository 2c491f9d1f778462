-- Systems that are opened, whose bodies run elsewhere.
use Rattle.std.specs.Prelude.{◌≡◌, ℕ, List}
use Rattle.fmp_base.specs.declared.systems.System.{System}
use Rattle.fmp_base.specs.Systems.{SystemTables, tables_of}
use Rattle.fmp_cfgparse.specs.Configurations.{Describes}

-- these are the tables of the system that a configuration describes
pub record IsOf (cfg : List ℕ) (tables : SystemTables) : Type 0 where
  pub system : System
  pub described : Describes cfg system
  pub same : tables ≡ tables_of system
