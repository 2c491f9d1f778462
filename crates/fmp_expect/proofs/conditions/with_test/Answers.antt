use Rattle.std.proofs.Common.{◌≡◌, ◌∙◌, ℕ, ◌+◌, ◌<◌, ◌∷◌, [], ◌++◌, List, ap, arith, length, length-append, set}
use Rattle.fmp_monitors.specs.declared.condition.Condition.{Condition}
use Rattle.fmp_monitors.specs.declared.condition.ConditionTest.{ConditionTest}
use Rattle.fmp_expect.specs.Conditions.{condition_with}
use Rattle.fmp_expect.proofs.Tests.{with_one}
use Rattle.fmp_expect.proofs.conditions.with_test.Goals as goal

pub returns : goal.returns
returns c = λ ts is.
    let t = c.args.test in
    let count : c.args.condition.count ≡ length ts = ap (λ (x : Condition). x.count) is in
    let room : length ts < 8 = omega (arith, count, c.requires) in
    let one : length ts + 1 ≡ length (ts ++ t ∷ []) = simp length-append (omega arith) in
    ap (λ (x : Condition). record { count = x.count + 1; tests = set x.tests x.count t }) is
    ∙ ap (λ (n : ℕ). record { count = n; tests = set (condition_with ts).tests (length ts) t }) one
    ∙ ap (λ (l : List ConditionTest). record { count = length (ts ++ t ∷ []); tests = l }) (with_one ts t room)
