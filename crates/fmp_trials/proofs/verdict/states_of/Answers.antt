use Rattle.fmp_base.specs.Runs.{task_state}
use Rattle.fmp_trials.proofs.States.{states_more}
use Rattle.fmp_trials.proofs.verdict.states_of.Goals as goal

pub loop-task-preserved : goal.loop-task-preserved
loop-task-preserved g c =
    states_more (task_state c.args.kernel.now.world.state) _ _ _ _ c.loop-task.invariant c.in_ok-push.ensures.items
    c.state.ensures
