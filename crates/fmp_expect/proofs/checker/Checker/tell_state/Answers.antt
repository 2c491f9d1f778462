use Rattle.std.proofs.Common.{◌∙◌}
use Rattle.fmp_expect.proofs.Steps.{told_state}
use Rattle.fmp_expect.proofs.checker.Checker.tell_state.Goals as goal

pub returns : goal.returns
returns c = λ xs told are.
    c.tell_one.ensures ∙ told_state c.args.number c.args.state.now.state xs told _ are
