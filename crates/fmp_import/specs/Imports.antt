-- What an import gives.
use Rattle.std.specs.Prelude.{◌≡◌, ℕ, List, Bool, Result, Ok, Err, bytes_eq, codes}
use Rattle.fmp_base.specs.declared.systems.System.{System}
use Rattle.fmp_cfgparse.specs.Configurations.{Describes}
use Rattle.fmp_import.specs.declared.importing.Imported.{Imported}
use Rattle.fmp_import.specs.declared.importing.ImportFault.{ImportFault}
use Rattle.fmp_import.specs.Words.{span_text}
use Rattle.fmp_import.specs.Written.{ClassPlan, plan_text}

-- a text begins as an image does
abbrev pub is_image : List ℕ → Bool
is_image text = bytes_eq (span_text text (record { start = 0; end = 4 })) (codes "FMPI")

-- the text is a configuration of this project
abbrev pub IsConfiguration : List ℕ → Type 0
IsConfiguration text = (system : System) × Describes text system

-- the text is that of some objects, whose names are whole words of the source
abbrev pub IsPlanned : (source text : List ℕ) → Type 0
IsPlanned source text =
    (processors : ℕ) × (classes : List ClassPlan) × (text ≡ plan_text source processors classes)

-- what is written is the text of some objects, and a configuration of this project
abbrev pub IsImported : (source : List ℕ) → Result Imported ImportFault → Type 0
IsImported source (Ok i) = IsPlanned source i.configuration.items × IsConfiguration i.configuration.items
IsImported source (Err e) = Unit {0}
