use Rattle.std.proofs.Common.{◌∙◌, sym}
use Rattle.fmp_searching.proofs.asked_question.lasting_question.Goals as goal

pub returns-then-has_end : goal.returns-then-has_end
returns-then-has_end c =
    (c.requires.known, (c.args.expected.now, (c.requires.says, sym c.has_end.ensures ∙ c.if-has_end.true)))
