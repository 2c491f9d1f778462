use Rattle.std.proofs.lemmas.Result.{IfOk-weaker}
use Rattle.fmp_view.proofs.differing.difference_of.Goals as goal

pub returns : goal.returns
returns g c =
    IfOk-weaker c.difference_over.result _ _
    (λ text h. record {
      system = c.in_ok-system.system.items;
      is_system = c.in_ok-system.ensures.bytes;
      a = h.0;
      is_a = h.1;
      b = h.2;
      is_b = h.3;
      is = rw c.deref.ensures.value at h.4;
    }) c.difference_over.ensures
