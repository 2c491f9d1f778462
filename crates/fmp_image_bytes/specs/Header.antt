-- The header of an image.
use Rattle.std.specs.Prelude.{◌≡◌, ℕ, List, length, Bool, codes}
use Rattle.std.specs.Str.{bytes_eq}
use Rattle.fmp_image_bytes.specs.declared.fault.ImageFault.TheVariants as fault
use Rattle.fmp_image_bytes.specs.Fields.{Field, ◌⊗◌, byte, short, bytes_at, tested, in_range}
use Rattle.fmp_image_bytes.specs.Versions.{is_version}

-- n bytes as they are
abbrev pub plain : ℕ → Field (List ℕ)
plain size = record { fits = λ t. length t ≡ size; spell = λ t. t; read = bytes_at size }

abbrev pub magic : List ℕ
magic = codes "FMPI"

abbrev pub is_magic : List ℕ → Bool
is_magic t = bytes_eq t magic

-- `FMPI`, the version, and the number of processors
abbrev pub header : Field (List ℕ × (ℕ × ℕ))
header =
    tested is_magic fault.Magic (plain 4) ⊗ tested is_version fault.Version short ⊗ tested (in_range 1 8) fault.Table
    byte
