use Rattle.fmp_view.proofs.importing.import_text.Goals as goal

pub returns-in-Ok : goal.returns-in-Ok
returns-in-Ok g c = λ zero.
    record {
      imported = c.in-Ok.imported;
      is = c.in-Ok.ensures;
      noted = g.O.Outside.done c.say_bytes.new.outside;
      notes = c.say_bytes.ensures;
      gives = rw c.deref-in-Ok.ensures.value at (c.give.ensures zero);
    }
