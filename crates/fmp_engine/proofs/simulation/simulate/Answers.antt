use Rattle.fmp_engine.proofs.simulation.simulate.Goals as goal

pub returns-clause-err : goal.returns-clause-err
returns-clause-err g c = c.simulate_image-simulated.ensures.err c.args.image.now c.in-Ok.ensures.found
