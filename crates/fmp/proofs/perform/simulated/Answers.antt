use Rattle.fmp.proofs.RunLemmas.{runs_image}
use Rattle.fmp.proofs.perform.simulated.Goals as goal

pub returns-in-Ok-clause-ok : goal.returns-in-Ok-clause-ok
returns-in-Ok-clause-ok g c =
    let s = c.in-Ok.ensures.ok in
    record { text = s.text; holds = runs_image _ _ _ c.sim_into.ensures.headline s.text s.simulated; given = s.given }

pub returns-in-Err-Stopped-clause-err : goal.returns-in-Err-Stopped-clause-err
returns-in-Err-Stopped-clause-err g c =
    let h = rw c.in-Err-Stopped.field-0-is at c.in-Err-Stopped.ensures.err in
    let s = h.1 in (
      h.0,
      record {
        text = s.text;
        holds = runs_image _ _ _ c.sim_into.ensures.headline s.text s.simulated;
        given = s.given;
      },
    )
