use Rattle.fmp_looking.specs.Covered.{seen_of}
use Rattle.fmp_looking.proofs.TrialRuns.{seen_of_test}
use Rattle.fmp_looking.proofs.test_coverage.seen_by.Goals as goal

pub returns-in-Ok : goal.returns-in-Ok
returns-in-Ok g c =
    record {
      expected = c.in_ok-expected.expected.items;
      read = c.in_ok-expected.ensures;
      seen =
          seen_of_test c.args.test.now c.args.texts.src.now c.args.runs (seen_of c.in-Ok.seen) _ _ _
          c.deref.ensures.value c.plan_of.ensures c.in-Ok.ensures;
    }
