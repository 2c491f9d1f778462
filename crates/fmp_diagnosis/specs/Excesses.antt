-- A value of a static API that is out of its range.
use Rattle.std.specs.Prelude.{ℤ, Bool, not, ◌&&◌, int_le}
use Rattle.fmp_diagnosis.specs.declared.refusals.Excess.{Excess}

abbrev pub is_within : ℤ → ℤ → ℤ → Bool
is_within value low high = int_le low value && int_le value high

abbrev pub is_outside : Excess → Bool
is_outside e = not (is_within e.value e.low e.high)
