use Rattle.std.proofs.Common.{◌≡◌, ◌++◌, drop}
use Rattle.fmp_frames.specs.Counting.{counts_of}
use Rattle.fmp_frames.specs.Tables.{task_rows}
use Rattle.fmp_frames.proofs.table.append_rows.Given as goal

abbrev pub invariant-loop-task : goal.invariant-loop-task
invariant-loop-task l =
    l.out.items ++ task_rows (counts_of l.tallies) l.width l.task (drop l.task l.tasks)
    ≡ l.initial.out.items ++ task_rows (counts_of l.tallies) l.width 0 l.tasks
