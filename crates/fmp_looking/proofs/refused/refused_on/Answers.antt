use Rattle.std.proofs.Common.{◌∙◌, List, ap}
use Rattle.std.proofs.lemmas.Result.{IfOk-weaker, err_from_is_err_and}
use Rattle.fmp_looking.proofs.refused.refused_on.Goals as goal
use Rattle.fmp_frames.specs.declared.answers.SiteAnswer.{SiteAnswer}
use Rattle.fmp_frames.specs.Refusals.{refused_calls}

pub answers_over-requires : goal.answers_over-requires
answers_over-requires c = record { few = c.requires.few }

pub returns-in_err-answers : goal.returns-in_err-answers
returns-in_err-answers c = rw ((err_from_is_err_and c.from_residual.result c.from_residual.ensures.1).1) tt

pub returns : goal.returns
returns c =
    IfOk-weaker c.refused_among.result _ _
    (λ refused h. h
    ∙ ap (λ (answers : List SiteAnswer). refused_calls c.args.image.now.code answers)
    (c.deref.ensures.value ∙ c.in_ok-answers.ensures))
    c.refused_among.ensures
