use Rattle.std.proofs.Common.{◌≡◌, List, ◌++◌, map, take, drop}
use Rattle.fmp_tasklang.specs.Trees.{BodyTree}
use Rattle.fmp_scopes.specs.Headings.{AreHeadings}
use Rattle.fmp_image.specs.Building.{built_task}
use Rattle.fmp_image.proofs.tables.build_tasks.Given as goal

abbrev pub invariant-loop-task : goal.invariant-loop-task
invariant-loop-task l =
    let rows = l.initial.tasks in
    (bodies : List BodyTree) → AreHeadings l.headings bodies →
    l.tasks ≡ map (built_task bodies) (take l.task-index rows) ++ drop l.task-index rows
