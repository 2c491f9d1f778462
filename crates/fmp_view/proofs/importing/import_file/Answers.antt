use Rattle.fmp_view.proofs.importing.import_file.Goals as goal

pub returns-in-Ok : goal.returns-in-Ok
returns-in-Ok g c = λ zero.
    let read = c.import_read.ensures zero in
    record {
      text = c.in-Ok.text.items;
      is_text = c.in-Ok.ensures.bytes;
      included = read.0;
      has = rw c.deref.ensures.value at read.1;
    }
