-- What is said of the faults of boards.
use Rattle.std.specs.Prelude.{ℕ, List, codes}
use Rattle.fmp_board.specs.declared.fault.BoardFault.{BoardFault}
use Rattle.fmp_board.specs.declared.fault.BoardFault.TheVariants.{Stale, Full, Memory, Limit, Thread, Held}

-- the code of a fault
abbrev pub board_code : BoardFault → List ℕ
board_code Stale = codes "H1"
board_code Full = codes "H2"
board_code Memory = codes "H3"
board_code Limit = codes "H4"
board_code Thread = codes "H5"
board_code Held = codes "H6"
