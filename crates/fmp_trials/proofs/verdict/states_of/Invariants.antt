use Rattle.std.proofs.Common.{◌≡◌, map}
use Rattle.std.specs.List.{range_with_len}
use Rattle.fmp_base.specs.Runs.{task_state}
use Rattle.fmp_trials.proofs.verdict.states_of.Given as goal

abbrev pub invariant-loop-task : goal.invariant-loop-task
invariant-loop-task g l = l.states.items ≡ map (task_state l.kernel.world.state) (range_with_len 0 l.task)
