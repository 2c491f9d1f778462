use Rattle.std.proofs.Common.{◌≡◌, get_or}
use Rattle.fmp_frames.specs.Frames.{each}
use Rattle.fmp_frames.specs.Counting.{spun}
use Rattle.fmp_frames.proofs.tallies.all_spun.Given as goal

abbrev pub invariant-loop-task : goal.invariant-loop-task
invariant-loop-task l =
    l.counts.items ≡ each (λ t. spun t l.processors l.spins (get_or l.before t 0)) l.task
