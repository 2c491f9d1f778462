use Rattle.fmp.proofs.perform.built.Goals as goal

pub returns-in-Err-clause-refused : goal.returns-in-Err-clause-refused
returns-in-Err-clause-refused c = c.no_image.ensures c.args.cfg.now c.args.src.now c.in-Err.ensures.refused
