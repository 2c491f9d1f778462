-- The statuses that the program ends with.
use Rattle.std.specs.Prelude.{ℕ}
use Rattle.fmp_board.specs.declared.fault.BoardFault.TheVariants as board
use Rattle.fmp_image_bytes.specs.declared.fault.LoadFault.TheVariants as load
use Rattle.fmp_stress.specs.declared.exit.StressExit.{StressExit}
use Rattle.fmp_stress.specs.declared.exit.StressExit.TheVariants.{Load, Board, Failed}

-- 1 for a fault of what was read or if there is no such board, 3 for a failure or if memory ran out
abbrev pub status_of : StressExit → ℕ
status_of (Load load.Memory) = 3
status_of (Load fault) = 1
status_of (Board board.Memory) = 3
status_of (Board fault) = 1
status_of (Failed _) = 3
