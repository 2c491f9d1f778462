use Rattle.fmp_view.proofs.targeting.give.Goals as goal

pub returns-in-Err-clause-stopped : goal.returns-in-Err-clause-stopped
returns-in-Err-clause-stopped g c = λ _.
    record {
      between = g.O.Outside.done c.make_target.new.outside;
      begun = c.in-Err.ensures.begun;
      said = c.end.ensures.said;
    }
