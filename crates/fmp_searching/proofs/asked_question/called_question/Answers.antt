use Rattle.std.proofs.Common.{◌∙◌, ap, sym}
use Rattle.fmp_searching.specs.Questions.{are_called}
use Rattle.fmp_searching.proofs.Asked.{with_same_codes}
use Rattle.fmp_searching.proofs.asked_question.called_question.Goals as goal

pub returns : goal.returns
returns c =
    let inquiry = c.args.inquiry.now in
    record {
      expected = c.args.expected.now;
      says = c.requires.says;
      lasting = c.requires.lasting;
      called = sym (ap (are_called inquiry.image.now.code inquiry.lines.now) c.requires.codes) ∙ c.requires.called;
      asks = with_same_codes _ _ _ _ _ _ _ _ c.requires.codes c.in_ok-question.ensures;
    }
