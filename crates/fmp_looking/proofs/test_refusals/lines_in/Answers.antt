use Rattle.std.proofs.Common.{◌∙◌, ℕ, List, ap, map}
use Rattle.std.proofs.lemmas.Result.{IfOk-weaker}
use Rattle.fmp_instructions.specs.Instructions.{BodyTables}
use Rattle.fmp_frames.specs.declared.answers.SiteAnswer.{SiteAnswer}
use Rattle.fmp_frames.specs.declared.refusals.RefusedCall.{RefusedCall}
use Rattle.fmp_frames.specs.Refusals.{Refused, refused_calls, refused_of}
use Rattle.fmp_looking.specs.Refused.{refused_lines}
use Rattle.fmp_looking.proofs.test_refusals.lines_in.Goals as goal

pub returns : goal.returns
returns c =
    let image = c.args.trials.now.opened.image.now in
    let positions = c.in_ok-positions.positions in
    let file = c.as_bytes.result.now in
    let answers = c.in_ok-answers.answers.items in
    IfOk-weaker c.lines_of.result _ _
    (λ out h. record {
      bodies = positions;
      calls = c.in_ok-positions.ensures;
      answers = answers;
      are = c.in_ok-answers.ensures;
      text = h
          ∙ ap
          (λ (t : List BodyTables). refused_lines c.args.form file t positions (map refused_of c.deref-2.result.now))
          c.code.ensures
          ∙ ap (λ (rs : List RefusedCall). refused_lines c.args.form file image.code positions (map refused_of rs))
          c.deref-2.ensures.value
          ∙ ap (λ (rs : List Refused). refused_lines c.args.form file image.code positions rs) c.in_ok-refused.ensures
          ∙ ap
          (λ (g : List SiteAnswer). refused_lines c.args.form file image.code positions (refused_calls image.code g))
          c.deref.ensures.value
          ∙ ap (λ (f : List ℕ). refused_lines c.args.form f image.code positions (refused_calls image.code answers))
          c.as_bytes.ensures.value;
    })
    c.lines_of.ensures
