use Rattle.std.proofs.Common.{◌≡◌, ◌≤◌, length}
use Rattle.fmp_trials.specs.Shortening.{IsFailing}
use Rattle.fmp_trials.proofs.shortening.drop_pieces_of.Given as goal

abbrev pub invariant-loop-end : goal.invariant-loop-end
invariant-loop-end g l =
    record {
      failing : IsFailing g.B.Body.meaning g.J.LineJudge.breaks l.bench l.run;
      line : l.run.broken.line ≡ l.fn.run.broken.line;
      same : l.bench ≡ l.fn.bench;
      end : l.end ≤ length l.run.steps.items;
    }

abbrev pub decreases-loop-end : goal.decreases-loop-end
decreases-loop-end g l = l.end
