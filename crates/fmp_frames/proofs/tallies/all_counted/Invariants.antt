use Rattle.std.proofs.Common.{◌≡◌, get_or}
use Rattle.fmp_frames.specs.Frames.{each}
use Rattle.fmp_frames.specs.Counting.{counted, nothing}
use Rattle.fmp_frames.proofs.tallies.all_counted.Given as goal

abbrev pub invariant-loop-task : goal.invariant-loop-task
invariant-loop-task l =
    l.tallies.items
    ≡ each (λ t. counted t l.event.lines.now l.event.kept l.event.was.now l.event.is.now (get_or l.before t nothing))
    l.task
