-- What is true of the vectors and the clock of a kernel.
use Rattle.std.specs.Prelude.{◌≡◌, ℕ, ◌≤◌, ◌^◌}
use Rattle.fmp_base.specs.Ranges.{IsInRange}
use Rattle.fmp_base.specs.Systems.{SystemTables}

-- the system is in range, and there is room for the lines that an event causes and for all its lines
pub record HasRoom (sys : SystemTables) (caused_room lines_room : ℕ) : Type 0 where
  pub range : IsInRange sys
  pub caused : caused_room ≡ 510
  pub lines : lines_room ≡ 519

-- the clock, by how many events were done, and by how many were taken
pub record IsEarly (clock done taken : ℕ) : Type 0 where
  pub time : clock ≤ taken
  pub few : done ≤ taken
  pub early : taken ≤ 2 ^ 31
