-- Why a board gives no journal.
use Rattle.std.proofs.Common.{◌≡◌, ◌≢◌, refl}
use Rattle.fmp_engine.specs.Hosting.{FitsBoard, IsWhyNoBoard}
use Rattle.fmp_engine.specs.declared.hosting.Workload.{Workload}
use Rattle.fmp_board.specs.declared.fault.BoardFault.{BoardFault}
use Rattle.fmp_board.specs.declared.fault.BoardFault.TheVariants as board
use Rattle.fmp_image_bytes.specs.Images.{ImageTables}

pub why_no_board : (f : BoardFault) (i : ImageTables) (work : Workload) → f ≢ board.Memory → f ≢ board.Limit
    → f ≢ board.Stale → f ≢ board.Held → f ≢ board.Full → IsWhyNoBoard f i work
why_no_board board.Limit i work other limit stale held full = absurd (limit refl)
why_no_board board.Memory i work other limit stale held full = absurd (other refl)
why_no_board board.Stale i work other limit stale held full = absurd (stale refl)
why_no_board board.Full i work other limit stale held full = absurd (full refl)
why_no_board board.Thread i work other limit stale held full = tt
why_no_board board.Held i work other limit stale held full = absurd (held refl)
