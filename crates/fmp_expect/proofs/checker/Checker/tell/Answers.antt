use Rattle.std.proofs.Common.{◌∙◌}
use Rattle.fmp_expect.proofs.Steps.{told_more}
use Rattle.fmp_expect.proofs.checker.Checker.tell.Goals as goal

pub returns : goal.returns
returns c = λ xs told are.
    c.tell_all.ensures ∙ told_more c.args.number c.args.lines.now xs told _ are
