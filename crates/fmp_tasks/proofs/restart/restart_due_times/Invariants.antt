use Rattle.std.proofs.Common.{◌≡◌, ◌++◌, drop, map, take}
use Rattle.fmp_tasks.specs.Restarts.{time_left}
use Rattle.fmp_tasks.proofs.restart.restart_due_times.Given as goal

abbrev pub invariant-loop-c : goal.invariant-loop-c
invariant-loop-c l = l.cyclics ≡ map (time_left l.now) (take l.c l.fn.cyclics) ++ drop l.c l.fn.cyclics
