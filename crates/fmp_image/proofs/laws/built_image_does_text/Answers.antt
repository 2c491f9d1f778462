use Rattle.fmp_image.specs.Building.{built_tables}
use Rattle.fmp_image.proofs.SameNames.{built_does}
use Rattle.fmp_image.proofs.laws.built_image_does_text.Goals as goal

pub returns : goal.returns
returns c = λ cfg src i b.
    let tables = b.configuration.making.tables in
    built_does tables b.tasks.bodies i
    (λ accepted. c.compiled_stretch.ensures (built_tables b.tasks.bodies tables) b.tasks.bodies accepted) b.accepted
    b.image
