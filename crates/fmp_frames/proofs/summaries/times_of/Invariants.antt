use Rattle.std.proofs.Common.{◌≡◌, ◌++◌, drop}
use Rattle.fmp_frames.specs.Summaries as spec
use Rattle.fmp_frames.proofs.summaries.times_of.Given as goal

-- the times so far, and those of the responses that are left
abbrev pub invariant-loop-response : goal.invariant-loop-response
invariant-loop-response l = l.times.items ++ spec.times_of l.handler (drop l.response-index l.all)
    ≡ spec.times_of l.handler l.all
