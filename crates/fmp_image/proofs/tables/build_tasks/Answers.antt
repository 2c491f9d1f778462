use Rattle.std.proofs.Common.{arith}
use Rattle.fmp_image.proofs.RowLoops.{task_row}
use Rattle.fmp_image.proofs.tables.build_tasks.Goals as goal

pub loop-task-preserved : goal.loop-task-preserved
loop-task-preserved c = λ bodies are.
    task_row bodies c.args.tasks.now c.loop-task.tasks c.loop-task.task-index c.built_entry-task.result
    c.loop-task-test.true (omega arith) (c.loop-task.invariant bodies are) (c.built_entry-task.ensures bodies are)
