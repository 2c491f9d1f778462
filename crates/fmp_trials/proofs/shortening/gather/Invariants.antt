use Rattle.std.proofs.Common.{◌≡◌}
use Rattle.fmp_trials.specs.Shortening.{IsFailing}
use Rattle.fmp_trials.proofs.shortening.gather.Given as goal

abbrev pub invariant-loop-at : goal.invariant-loop-at
invariant-loop-at g l =
    record {
      failing : IsFailing g.B.Body.meaning g.J.LineJudge.breaks l.bench l.run;
      line : l.run.broken.line ≡ l.fn.run.broken.line;
      same : l.bench ≡ l.fn.bench;
    }
