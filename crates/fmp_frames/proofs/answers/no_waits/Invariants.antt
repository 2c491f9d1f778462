use Rattle.std.proofs.Common.{◌≡◌, None, replicate}
use Rattle.fmp_frames.proofs.answers.no_waits.Given as goal

abbrev pub invariant-loop-task : goal.invariant-loop-task
invariant-loop-task l = l.waiting.items ≡ replicate l.task None
