use Rattle.std.proofs.Common.{◌≡◌, ◌∙◌, ℕ, List, IfOk, ap, rules, subst}
use Rattle.fmp_expect.specs.Watches.{lines_of_empty}
use Rattle.fmp_expect.proofs.Steps.{empty_is}
use Rattle.fmp_expect.proofs.checker.Checker.empty_claims.Goals as goal

pub returns : goal.returns
returns c = λ xs told are.
    let same : c.deref.result.now ≡ c.args.self.now = search rules in
    subst (λ (ls : List ℕ). IfOk c.lines_of_empty.result (λ v. v.items ≡ ls))
    (ap lines_of_empty same ∙ empty_is xs told _ are) c.lines_of_empty.ensures
