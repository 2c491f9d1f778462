use Rattle.std.proofs.Common.{refl}
use Rattle.std.proofs.lemmas.Result.{IfOk-weaker}
use Rattle.fmp_view.proofs.expecting.told_of.Goals as goal

pub returns : goal.returns
returns g c =
    IfOk-weaker c.run_told.result _ _
    (λ out h. record {
      judged = record { expectations = c.expectations_of.result; form = c.args.form };
      form = refl;
      are =
          record {
            name = c.expectations_of.ensures.name;
            strict = c.expectations_of.ensures.strict;
            is_text = rw c.expectations_of.ensures.text (rw c.deref.ensures.value c.in_ok-text.ensures.bytes);
          };
      told = h;
    }) c.run_told.ensures
