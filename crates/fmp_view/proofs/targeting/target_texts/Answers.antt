use Rattle.std.proofs.Common.{inr}
use Rattle.fmp_view.proofs.targeting.target_texts.Goals as goal

pub returns-in-Ok-clause-exported : goal.returns-in-Ok-clause-exported
returns-in-Ok-clause-exported g c = λ zero.
    record { exported = c.in-Ok.exported; is = c.in-Ok.ensures; written = c.give.ensures.given zero }

pub returns-in-Ok-clause-stopped : goal.returns-in-Ok-clause-stopped
returns-in-Ok-clause-stopped g c = λ failed.
    inr (record { exported = c.in-Ok.exported; is = c.in-Ok.ensures; stops = c.give.ensures.stopped failed })
