use Rattle.fmp_view.proofs.testing.run_test.Goals as goal

pub returns-in-Ok : goal.returns-in-Ok
returns-in-Ok g c = λ done.
    record {
      cfg = c.deref.result.now;
      is_cfg = rw c.deref.ensures.value c.in-Ok.ensures.one;
      src = c.deref-in-Ok.result.now;
      is_src = rw c.deref-in-Ok.ensures.value c.in-Ok.ensures.other;
      ends = c.test_texts.ensures done;
    }
