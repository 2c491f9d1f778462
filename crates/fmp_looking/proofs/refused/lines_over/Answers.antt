use Rattle.fmp_looking.proofs.refused.lines_over.Goals as goal

pub returns-in-Ok : goal.returns-in-Ok
returns-in-Ok c =
    record {
      events = c.in_ok-events.events.items;
      read = c.in_ok-events.ensures.read;
      holds =
          record {
            bodies = c.in_ok-positions.positions;
            calls = c.in_ok-positions.ensures;
            text =
                rw c.deref.ensures.value at
                (rw c.file_of.ensures at (rw c.line_form.ensures at c.in-Ok.ensures));
          };
    }
