use Rattle.std.proofs.Common.{◌≡◌, ◌++◌, ◌-◌}
use Rattle.fmp_frames.specs.Compares.{states_beside}
use Rattle.fmp_frames.proofs.comparing.append_states_beside.Given as goal

abbrev pub invariant-loop-task : goal.invariant-loop-task
invariant-loop-task l =
    l.out.items ++ states_beside l.a l.b l.task (l.count - l.task)
    ≡ l.initial.out.items ++ states_beside l.a l.b 0 l.count
