use Rattle.fmp_engine.proofs.Headline.{prints_texts}
use Rattle.fmp_engine.proofs.simulation.sim_into.Goals as goal

pub returns-clause-headline : goal.returns-clause-headline
returns-clause-headline g c = λ cfg src i b spelled text s.
    prints_texts i b.tasks.bodies c.args.image.now c.args.steps.now c.args.n _ _ s spelled
    (λ es. c.built_image_prints_text.ensures cfg src i b c.args.n es c.requires.low)
