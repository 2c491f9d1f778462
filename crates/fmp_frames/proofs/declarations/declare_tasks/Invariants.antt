use Rattle.std.proofs.Common.{◌≡◌, ◌++◌, drop}
use Rattle.fmp_frames.specs.Declarations.{of_each, task_scope}
use Rattle.fmp_frames.proofs.declarations.declare_tasks.Given as goal

abbrev pub invariant-loop-place : goal.invariant-loop-place
invariant-loop-place l =
    l.out.items ++ of_each task_scope l.place (drop l.place l.sys.tasks.items)
    ≡ l.initial.out.items ++ of_each task_scope 0 l.sys.tasks.items
