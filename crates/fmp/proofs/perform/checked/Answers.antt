use Rattle.fmp.proofs.perform.checked.Goals as goal

pub returns-in-Err-clause-err : goal.returns-in-Err-clause-err
returns-in-Err-clause-err g c =
    (c.no_image.ensures c.args.cfg.now c.args.src.now c.in-Err.ensures.refuses, g.met.T.Outlet.gave_nothing _)
