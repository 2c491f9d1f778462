use Rattle.std.proofs.Common.{◌≡◌, false}
use Rattle.fmp_trials.specs.Drawn.{AllHaveMet, any_of_end}
use Rattle.fmp_trials.proofs.testing.first_failing.Given as goal

abbrev pub invariant-loop-before : goal.invariant-loop-before
invariant-loop-before g l =
    record {
      same : l.bench ≡ l.fn.bench;
      met : any_of_end l.fn.bench.expected ≡ false
          → AllHaveMet g.B.Body.meaning g.J.LineJudge.breaks l.fn.bench l.fn.plan l.fn.seeds.before l.before;
    }
