use Rattle.std.proofs.Common.{◌≡◌, length, map, take}
use Rattle.fmp_tasks.proofs.restart.restart_deadlines.Given as goal

abbrev pub invariant-loop-t : goal.invariant-loop-t
invariant-loop-t l =
    record {
      long : length l.deadlines ≡ length l.blocks;
      items : take l.t l.deadlines ≡ map (λ x. x.deadline) (take l.t l.blocks);
    }
