use Rattle.std.proofs.Common.{◌≡◌, get_or, map}
use Rattle.std.specs.List.{range_with_len}
use Rattle.fmp_timeline.specs.Shown.{task_shown, no_state, no_block}
use Rattle.fmp_timeline.proofs.states.tasks_shown.Given as goal

abbrev pub invariant-loop-task : goal.invariant-loop-task
invariant-loop-task l =
    l.shown.items ≡ map (λ t. task_shown t (get_or l.states t no_state) (get_or l.blocks t no_block) l.processors)
    (range_with_len 0 l.task)
