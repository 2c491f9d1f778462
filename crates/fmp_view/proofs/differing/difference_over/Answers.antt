use Rattle.std.proofs.lemmas.Result.{IfOk-weaker}
use Rattle.fmp_view.proofs.differing.difference_over.Goals as goal

pub returns : goal.returns
returns g c =
    let both = c.in_ok-both.both in
    IfOk-weaker c.compared.result _ _
    (λ text h. (
      both.0.items,
      c.in_ok-both.ensures.one,
      both.1.items,
      c.in_ok-both.ensures.other,
      rw c.deref-2.ensures.value at (rw c.deref.ensures.value at h),
    )) c.compared.ensures
