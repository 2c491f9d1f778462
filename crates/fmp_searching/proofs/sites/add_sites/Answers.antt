use Rattle.std.proofs.Common.{◌++◌, append-nil, sym, ap, ◌∙◌, arith}
use Rattle.fmp_searching.proofs.Bodies.{sites_at_end}
use Rattle.fmp_searching.proofs.sites.add_sites.Goals as goal

pub returns : goal.returns
returns c =
    let end = sites_at_end c.args.body c.args.line c.args.positions.now c.args.calls.now c.loop-at.at
    (omega (arith, c.min-count.ensures, c.loop-at-test.false)) in
    sym (append-nil c.loop-at.sites.items)
    ∙ ap (λ r. c.loop-at.sites.items ++ r) (sym end)
    ∙ c.loop-at.invariant
