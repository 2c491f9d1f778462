use Rattle.std.proofs.Common.{◌≡◌, ◌++◌, drop, map, take}
use Rattle.fmp_tasks.specs.Restarts.{with_time_left}
use Rattle.fmp_tasks.proofs.restart.restart_blocks.Given as goal

abbrev pub invariant-loop-t : goal.invariant-loop-t
invariant-loop-t l = l.blocks ≡ map (with_time_left l.now) (take l.t l.fn.blocks) ++ drop l.t l.fn.blocks
