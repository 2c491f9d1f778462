use Rattle.fmp_looking.proofs.comparing.difference_over.Goals as goal

pub returns-in-Ok : goal.returns-in-Ok
returns-in-Ok c =
    record {
      events = c.in_ok-xs.xs.items;
      read = c.in_ok-xs.ensures.read;
      holds =
          record {
            events = c.in_ok-ys.ys.items;
            read = c.in_ok-ys.ensures.read;
            holds = rw c.deref-2.ensures.value at (rw c.deref.ensures.value at c.in-Ok.ensures);
          };
    }
