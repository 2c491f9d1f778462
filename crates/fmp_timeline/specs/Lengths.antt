-- Lengths of a picture, in tenths of a pixel.
use Rattle.std.specs.Prelude.{ℕ, ◌*◌, ℤ, pos, min}
use Rattle.std.specs.Int.{saturate_signed, w32}
use Rattle.fmp_timeline.specs.declared.lengths.Tenths.{Tenths}

-- this many tenths of a pixel: what leaves the range of lengths stops at its end
abbrev pub tenths : ℤ → Tenths
tenths n = record { 0 = saturate_signed w32 n }

-- this many pixels
abbrev pub pixels : ℕ → Tenths
pixels n = tenths (pos (n * 10))

-- a count that a length is multiplied by
abbrev pub factor : ℕ → ℤ
factor count = pos (min count 2147483647)
