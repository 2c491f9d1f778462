use Rattle.std.proofs.Common.{◌≡◌, ◌+◌, ◌≤◌, ◌^◌, drop, length}
use Rattle.fmp_kernel.specs.Comings.{view_after_each}
use Rattle.fmp_expect.specs.Judges.{broken_along}
use Rattle.fmp_expect.specs.Parts.{or_else}
use Rattle.fmp_expect.proofs.judge.judge_run.Given as goal

-- what was broken so far, and what the events that are left break, is what the run breaks
abbrev pub invariant-loop-e : goal.invariant-loop-e
invariant-loop-e g l = record {
  room : l.kernel.taken + length l.events ≤ 2 ^ 31 + l.e-index;
  state : view_after_each g.T.Coming.reaction l.kernel (drop l.e-index l.events)
      ≡ view_after_each g.T.Coming.reaction l.fn.kernel l.events;
  broken : or_else l.broken
      (broken_along (g.J.LineJudge.breaks l.judge) g.T.Coming.reaction l.kernel (drop l.e-index l.events))
      ≡ broken_along (g.J.LineJudge.breaks l.judge) g.T.Coming.reaction l.fn.kernel l.events;
}
