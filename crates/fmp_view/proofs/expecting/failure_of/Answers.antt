use Rattle.std.proofs.lemmas.Result.{IfOk-weaker}
use Rattle.fmp_view.proofs.expecting.failure_of.Goals as goal

pub returns : goal.returns
returns g c =
    IfOk-weaker c.run_failure.result _ _
    (λ text h. record {
      expectations = c.expectations_of.result;
      are =
          record {
            name = c.expectations_of.ensures.name;
            strict = c.expectations_of.ensures.strict;
            is_text = rw c.expectations_of.ensures.text (rw c.deref.ensures.value c.in_ok-text.ensures.bytes);
          };
      judged = h;
    }) c.run_failure.ensures
