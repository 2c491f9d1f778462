use Rattle.fmp.proofs.perform.hosted.Goals as goal

pub returns-in-Ok-clause-ok : goal.returns-in-Ok-clause-ok
returns-in-Ok-clause-ok g c =
    record { counts = c.in-Ok.field-0.counts; hosted = c.in-Ok.ensures.ok; meant = c.in-Ok.ensures.headline }

pub returns-in-Ok-clause-counts : goal.returns-in-Ok-clause-counts
returns-in-Ok-clause-counts g c =
    let h = c.in-Ok.ensures.ok in
    record { journal = h.journal; steps_are = h.steps; counted = h.counted }
