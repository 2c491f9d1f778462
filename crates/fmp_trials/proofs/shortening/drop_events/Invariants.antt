use Rattle.std.proofs.Common.{◌≡◌, ◌<◌, ◌≤◌, length, true}
use Rattle.fmp_trials.specs.Shortening.{IsFailing, NoneCanGo}
use Rattle.fmp_trials.proofs.shortening.drop_events.Given as goal

abbrev pub invariant-loop-place : goal.invariant-loop-place
invariant-loop-place g l =
    record {
      failing : IsFailing g.B.Body.meaning g.J.LineJudge.breaks l.bench l.run;
      line : l.run.broken.line ≡ l.fn.run.broken.line;
      same : l.bench ≡ l.fn.bench;
      place : l.place ≤ length l.run.steps.items;
      no_longer : length l.run.steps.items ≤ length l.fn.run.steps.items;
      fewer : l.dropped ≡ true → length l.run.steps.items < length l.fn.run.steps.items;
      after : NoneCanGo g.B.Body.meaning g.J.LineJudge.breaks l.bench l.run l.place l.dropped;
    }

abbrev pub decreases-loop-place : goal.decreases-loop-place
decreases-loop-place g l = l.place
