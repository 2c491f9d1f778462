use Rattle.std.proofs.Common.{◌≡◌}
use Rattle.fmp_trials.specs.Shortening.{IsFailing}
use Rattle.fmp_trials.proofs.shortening.drop_pieces.Given as goal

abbrev pub invariant-loop-size : goal.invariant-loop-size
invariant-loop-size g l =
    record {
      failing : IsFailing g.B.Body.meaning g.J.LineJudge.breaks l.bench l.run;
      line : l.run.broken.line ≡ l.fn.run.broken.line;
      same : l.bench ≡ l.fn.bench;
    }

abbrev pub decreases-loop-size : goal.decreases-loop-size
decreases-loop-size g l = l.size
