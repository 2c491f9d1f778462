use Rattle.std.proofs.Common.{◌∙◌}
use Rattle.fmp_trials.proofs.Drawn.{fails_back, shortened_there}
use Rattle.fmp_trials.proofs.testing.first_failed_trial.Goals as goal

pub returns-in_ok-shortened-in-Some-clause-found : goal.returns-in_ok-shortened-in-Some-clause-found
returns-in_ok-shortened-in-Some-clause-found g c =
    record {
      failing = c.in-Some.found;
      is = rw c.in-Some.is at c.in_ok-found.ensures.first;
      shortened =
          shortened_there g.B.Body.meaning g.J.LineJudge.breaks c.args.bench.now c.shortened.new.bench
          (c.shortened.ensures.same ∙ c.first_failing.ensures.same) c.in-Some.found
          c.in_ok-shortened-in-Some.field-0 c.in_ok-shortened-in-Some.ensures.shortened;
    }

pub shortened-requires : goal.shortened-requires
shortened-requires g c =
    let failing = rw c.in-Some.is at c.in_ok-found.ensures.first in
    fails_back g.B.Body.meaning g.J.LineJudge.breaks c.args.bench.now c.first_failing.new.bench
    c.first_failing.ensures.same c.in-Some.found.run failing.fails
