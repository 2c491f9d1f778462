use Rattle.fmp_looking.proofs.source_expecting.judgements_over.Goals as goal

pub returns-in-Ok : goal.returns-in-Ok
returns-in-Ok c =
    record {
      events = c.in_ok-events.events.items;
      read = c.in_ok-events.ensures.read;
      holds =
          record {
            sentences = c.in_ok-sentences.sentences;
            read = c.in_ok-sentences.ensures;
            told = rw c.deref.ensures.value at c.in-Ok.ensures;
          };
    }
