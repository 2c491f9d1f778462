use Rattle.fmp_view.proofs.answering.take_one.Goals as goal

pub returns-clause-takes : goal.returns-clause-takes
returns-clause-takes c =
    record {
      taken = c.in_ok-told.told.taken;
      exact = c.in_ok-told.ensures.exact;
      events = c.in_ok-told.ensures.events;
      is = c.is_deed.ensures;
    }
