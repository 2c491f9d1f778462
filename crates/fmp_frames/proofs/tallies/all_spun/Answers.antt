use Rattle.std.proofs.Common.{ap, ◌∙◌, get_or, ℕ}
use Rattle.fmp_frames.proofs.EachLemmas.{each-more}
use Rattle.fmp_frames.specs.Counting.{spun}
use Rattle.fmp_frames.proofs.tallies.all_spun.Goals as goal

pub loop-task-preserved : goal.loop-task-preserved
loop-task-preserved c =
    each-more (λ t. spun t c.args.processors.now c.args.spins.now (get_or c.args.before.now t 0))
    _ _ _ _ c.loop-task.invariant c.in_ok-push.ensures.items
    (c.spun.ensures ∙ ap (λ (x : ℕ). spun c.loop-task.task c.args.processors.now c.args.spins.now x) c.count_at.ensures)
