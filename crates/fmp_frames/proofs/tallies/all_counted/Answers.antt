use Rattle.std.proofs.Common.{ap, ◌∙◌, get_or}
use Rattle.fmp_frames.proofs.EachLemmas.{each-more}
use Rattle.fmp_frames.specs.declared.counting.TaskTally.{TaskTally}
use Rattle.fmp_frames.specs.Counting.{counted, nothing}
use Rattle.fmp_frames.proofs.tallies.all_counted.Goals as goal

pub loop-task-preserved : goal.loop-task-preserved
loop-task-preserved c =
    each-more (λ t. counted t c.args.event.lines.now c.args.event.kept c.args.event.was.now c.args.event.is.now
    (get_or c.args.before.now t nothing))
    _ _ _ _ c.loop-task.invariant c.in_ok-push.ensures.items
    (c.counted.ensures ∙ ap (λ (x : TaskTally). counted c.loop-task.task c.args.event.lines.now c.args.event.kept
    c.args.event.was.now c.args.event.is.now x) c.tally_at-tally.ensures)
