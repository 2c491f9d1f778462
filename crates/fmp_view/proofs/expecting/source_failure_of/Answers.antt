use Rattle.std.proofs.Common.{refl}
use Rattle.std.proofs.lemmas.Result.{IfOk-weaker}
use Rattle.fmp_view.proofs.expecting.source_failure_of.Goals as goal

pub returns : goal.returns
returns g c =
    let both = c.in_ok-both.both in
    IfOk-weaker c.source_failure.result _ _
    (λ text h. record {
      sourced = record { expectations = c.args.expectations.now; src = c.deref-3.result };
      expectations = refl;
      is_src = rw c.deref-3.ensures.value c.in_ok-src.ensures.bytes;
      holds =
          record {
            bytes = both.0.items;
            is_image = c.in_ok-both.ensures.one;
            text = both.1.items;
            is_steps = c.in_ok-both.ensures.other;
            holds = rw c.deref-2.ensures.value at (rw c.deref.ensures.value at h);
          };
    }) c.source_failure.ensures
