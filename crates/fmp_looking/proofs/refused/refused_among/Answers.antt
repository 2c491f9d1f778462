use Rattle.std.proofs.Common.{◌∙◌, List, ap, subst, sym}
use Rattle.std.proofs.lemmas.Result.{IfOk-weaker}
use Rattle.fmp_instructions.specs.Instructions.{BodyTables}
use Rattle.fmp_looking.proofs.ImageSites.{image_sites}
use Rattle.fmp_looking.proofs.refused.refused_among.Goals as goal
use Rattle.fmp_frames.specs.Refusals.{refused_calls}
use Rattle.fmp_frames.specs.Sites.{HasSites}

pub refused_calls-requires : goal.refused_calls-requires
refused_calls-requires c =
    subst (λ (code : List BodyTables). HasSites code) (sym c.code.ensures) (image_sites _ c.keeps_rules.ensures)

pub returns : goal.returns
returns c =
    IfOk-weaker c.refused_calls.result _ _
    (λ refused h. h ∙ ap (λ (code : List BodyTables). refused_calls code c.args.answers.now) c.code.ensures)
    c.refused_calls.ensures
