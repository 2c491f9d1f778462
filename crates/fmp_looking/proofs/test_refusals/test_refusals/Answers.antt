use Rattle.fmp_looking.proofs.TestAnswers.{refused_of_test}
use Rattle.fmp_looking.proofs.test_refusals.test_refusals.Goals as goal

pub returns-in-Ok : goal.returns-in-Ok
returns-in-Ok c =
    record {
      expected = c.in_ok-expected.expected.items;
      read = c.in_ok-expected.ensures;
      lines =
          refused_of_test c.args.test.now _ c.args.test.now.testing.src.now c.args.texts.src.now c.args.runs
          c.in-Ok.lines.items _ _ _ c.deref.ensures.value c.plan_of.ensures (rw c.form_of.ensures at c.in-Ok.ensures);
    }
