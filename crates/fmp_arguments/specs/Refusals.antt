-- What is said of settings that are refused.
use Rattle.std.specs.Prelude.{ℕ, ◌≡◌, ◌++◌, codes, decimal}
use Rattle.fmp_arguments.specs.declared.settings_faults.Refusal.{Refusal}
use Rattle.fmp_arguments.specs.declared.settings_faults.Refusal.TheVariants as refusal
use Rattle.fmp_arguments.specs.Settings.{Text}

-- the line that is refused
abbrev pub line_of : Refusal → ℕ
line_of (refusal.Member line w) = line
line_of (refusal.Form line message) = line

-- a text begins with a file and a line
abbrev pub IsAt : (file : Text) → (line : ℕ) → (text : Text) → Type 0
IsAt file line text = (message : Text) × (text ≡ (((file ++ codes ":") ++ decimal line) ++ codes ": ") ++ message)
