use Rattle.fmp_frames.proofs.Differences.{appended, beside-more}
use Rattle.fmp_frames.proofs.comparing.append_states_beside.Goals as goal

pub loop-task-preserved : goal.loop-task-preserved
loop-task-preserved c =
    appended _ _ _ _ _ _ c.in_ok-append_task_beside.ensures
    (beside-more c.args.a.now c.args.b.now c.args.count c.loop-task.task c.loop-task-test.true) c.loop-task.invariant
