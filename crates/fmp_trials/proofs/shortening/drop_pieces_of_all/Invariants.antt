use Rattle.std.proofs.Common.{◌≡◌}
use Rattle.fmp_trials.specs.Shortening.{IsFailing}
use Rattle.fmp_trials.proofs.shortening.drop_pieces_of_all.Given as goal

abbrev pub invariant-loop-kept : goal.invariant-loop-kept
invariant-loop-kept g l =
    record {
      failing : IsFailing g.B.Body.meaning g.J.LineJudge.breaks l.bench l.run;
      line : l.run.broken.line ≡ l.fn.run.broken.line;
      same : l.bench ≡ l.fn.bench;
    }
