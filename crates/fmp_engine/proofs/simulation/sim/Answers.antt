use Rattle.fmp_engine.proofs.Headline.{prints_texts, where_ok}
use Rattle.fmp_engine.proofs.simulation.sim.Goals as goal

pub returns-clause-headline : goal.returns-clause-headline
returns-clause-headline c = λ cfg src i b spelled.
    where_ok c.append_simulated.result
    (λ s. prints_texts i b.tasks.bodies c.args.image.now c.args.steps.now c.args.n _ _ s spelled
    (λ es. c.built_image_prints_text.ensures cfg src i b c.args.n es c.requires.low))
    c.append_simulated.ensures.ok
