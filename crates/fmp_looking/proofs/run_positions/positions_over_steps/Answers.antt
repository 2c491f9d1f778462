use Rattle.fmp_looking.proofs.run_positions.positions_over_steps.Goals as goal

pub returns-in-Ok : goal.returns-in-Ok
returns-in-Ok c =
    record {
      events = c.in_ok-events.events.items;
      read = c.in_ok-events.ensures.read;
      holds =
          record {
            bodies = c.in_ok-positions.positions;
            calls = c.in_ok-positions.ensures.calls;
            made_so = rw c.deref.ensures.value at c.in-Ok.ensures;
          };
    }
