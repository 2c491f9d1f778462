use Rattle.std.proofs.Common.{inr}
use Rattle.fmp_view.proofs.exporting.export_texts.Goals as goal

pub returns-in-Ok-clause-exported : goal.returns-in-Ok-clause-exported
returns-in-Ok-clause-exported g c = λ zero.
    let written = c.give.ensures.given zero in
    record {
      exported = c.in-Ok.exported;
      is = c.in-Ok.ensures;
      keeps_main = written.0;
      keeps = written.1;
      written = written.2;
    }

pub returns-in-Ok-clause-stopped : goal.returns-in-Ok-clause-stopped
returns-in-Ok-clause-stopped g c = λ failed.
    let stops = c.give.ensures.stopped failed in
    inr (record {
      exported = c.in-Ok.exported;
      is = c.in-Ok.ensures;
      keeps_main = stops.keeps_main;
      keeps = stops.keeps;
      between = stops.between;
      begun = stops.begun;
      said = stops.said;
    })
