use Rattle.std.proofs.Common.{◌+◌, ◌-◌, ◌≡◌, ◌∙◌, ap, sym, arith, rules, get_or, set, take}
use Rattle.std.proofs.lemmas.List.{drop-set-lt}
use Rattle.fmp_trace.proofs.Counting.{counted_on}
use Rattle.fmp_trace.proofs.numeral.count_on.Goals as goal

pub returns-clause-next : goal.returns-clause-next
returns-clause-next c =
    let at = c.args.count - 1 in
    let digits = c.args.digits.now in
    let count : at + 1 ≡ c.args.count = omega (arith, c.requires.some) in
    λ n small is _.
    ap (λ k. take k (set digits at (get_or digits at 0 + 1))) (sym count)
    ∙ counted_on n at digits small (search rules) (ap (λ k. take k digits) count ∙ is) (search rules)

pub returns-clause-behind : goal.returns-clause-behind
returns-clause-behind c = drop-set-lt c.args.count c.args.digits.now (c.args.count - 1) _
    (omega (arith, c.requires.some))
