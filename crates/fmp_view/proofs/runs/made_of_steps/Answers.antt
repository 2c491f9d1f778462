use Rattle.std.proofs.lemmas.Result.{IfOk-weaker}
use Rattle.fmp_view.proofs.runs.made_of_steps.Goals as goal

pub returns : goal.returns
returns g c =
    let both = c.in_ok-both.both in
    IfOk-weaker c.look_at_image.result _ _
    (λ made h. record {
      bytes = both.0.items;
      is_image = c.in_ok-both.ensures.one;
      text = both.1.items;
      is_steps = c.in_ok-both.ensures.other;
      holds = rw c.deref-2.ensures.value at (rw c.deref.ensures.value at h);
    }) c.look_at_image.ensures
