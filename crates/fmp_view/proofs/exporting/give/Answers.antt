use Rattle.fmp_view.proofs.exporting.give.Goals as goal

pub returns-in-Err-clause-stopped : goal.returns-in-Err-clause-stopped
returns-in-Err-clause-stopped g c = λ _.
    let begun = c.in-Err.ensures.begun in
    record {
      keeps_main = begun.0;
      keeps = begun.1;
      between = g.O.Outside.done c.make_project.new.outside;
      begun = begun.2;
      said = c.end.ensures.said;
    }
