use Rattle.std.proofs.Common.{ℕ, ◌+◌, ◌-◌, ◌≤◌, ◌≡◌, ◌∙◌, ap, subst, sym, arith, rules, get_or, set, take}
use Rattle.std.proofs.lemmas.List.{drop-set-lt}
use Rattle.fmp_trace.proofs.Counting.{carried_on}
use Rattle.fmp_trace.proofs.numeral.count_tens_on.Goals as goal

pub returns-clause-next : goal.returns-clause-next
returns-clause-next c =
    let at = c.args.count - 2 in
    let digits = c.args.digits.now in
    let count : at + 1 + 1 ≡ c.args.count = search rules in
    let ones : at + 1 ≡ c.args.count - 1 = search rules in
    let P : ℕ → Type 0 = λ k. 57 ≤ get_or digits k 0 in
    λ n small is _.
    (λ i. take (sym count i) (set (set digits at (get_or digits at 0 + 1)) (sym ones i) 48))
    ∙ carried_on n at digits small (search rules) (ap (λ k. take k digits) count ∙ is)
    (subst P (sym ones) c.requires.nine) (search rules)

pub returns-clause-behind : goal.returns-clause-behind
returns-clause-behind c =
    drop-set-lt c.args.count _ (c.args.count - 1) 48 (omega (arith, c.requires.some))
    ∙ drop-set-lt c.args.count c.args.digits.now (c.args.count - 2) _ (omega (arith, c.requires.some))
