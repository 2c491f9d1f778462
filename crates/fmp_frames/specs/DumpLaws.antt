-- What holds of the text of a dump.
use Rattle.std.specs.Prelude.{◌≡◌, ◌<◌, ◌^◌, ℕ}
use Rattle.fmp_frames.specs.Dumps.{identifier}

-- no two of the first 94^4 variables have the same identifier
abbrev pub IdentifiersDiffer : Type 0
IdentifiersDiffer = (a b : ℕ) → a < 94 ^ 4 → b < 94 ^ 4 → identifier a ≡ identifier b → a ≡ b
