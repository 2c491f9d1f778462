use Rattle.std.proofs.Common.{◌∙◌, ap, List, ◌++◌}
use Rattle.fmp_base.specs.declared.events.Line.{Line}
use Rattle.fmp_base.specs.Systems.{tables_of}
use Rattle.fmp_base.specs.Texts.{lines_text}
use Rattle.fmp_image_bytes.specs.Images.{ImageTables}
use Rattle.fmp_hostrun.proofs.Advancing.{begins, made_at}
use Rattle.fmp_hostrun.proofs.follower.begun.Goals as goal

pub returns-in-Ok-clause-text : goal.returns-in-Ok-clause-text
returns-in-Ok-clause-text g c =
    begins g.S.Site.image g.S.Site.bound (tables_of c.system.result.now) _ _ _
    (c.system.ensures.tables ∙ ap (λ (i : ImageTables). i.system) c.image-image.ensures)
    (made_at _ _ _ _ _ c.image-image.ensures c.bound.ensures.value c.in_ok-kernel.ensures)
    (c.in-Ok.ensures.ok ∙ ap (λ (ls : List Line). c.args.out.now.items
    ++ lines_text (tables_of c.system.result.now) 0 ls) c.lines.ensures)
