use Rattle.std.proofs.Common.{◌≡◌, ◌∙◌, rules}
use Rattle.fmp_expect.proofs.Steps.{verdict_is}
use Rattle.fmp_expect.proofs.checker.Checker.verdict.Goals as goal

pub returns : goal.returns
returns c = λ xs told are.
    let same : c.deref.result.now ≡ c.args.self.now = search rules in
    c.first_failed.ensures ∙ verdict_is c.args.states.now c.args.number xs told _ (same ∙ are)
