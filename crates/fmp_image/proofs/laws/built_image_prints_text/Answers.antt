use Rattle.fmp_image.specs.Building.{built_tables}
use Rattle.fmp_image.proofs.SameNames.{built_prints}
use Rattle.fmp_image.proofs.laws.built_image_prints_text.Goals as goal

pub returns : goal.returns
returns c = λ cfg src i b n es low.
    let tables = b.configuration.making.tables in
    built_prints tables b.tasks.bodies i n es
    (λ accepted. c.compiled_run.ensures (built_tables b.tasks.bodies tables) b.tasks.bodies n es accepted low)
    b.accepted b.image
