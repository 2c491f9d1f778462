use denote.Param.Send.{sendable}
use Rattle.std.proofs.Crossing.{crosses}
use Rattle.fmp_board.proofs.Crossing.{board_sync}
use Rattle.fmp_stress.proofs.asking.SeatPlan.TheSendSync as plan
use Rattle.fmp_stress.proofs.threads.work_all.Goals as goal

-- many threads may share what the closure lends
pub map_vec-requires-sync-F : goal.map_vec-requires-sync-F
map_vec-requires-sync-F g c κs within = search (board_sync, plan.the_sync, c.type_bounds.send-S, crosses, sendable)
    depth 40
