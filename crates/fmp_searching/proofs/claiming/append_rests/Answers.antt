use Rattle.std.proofs.Common.{◌++◌, append-nil, sym, ap, ◌∙◌, arith}
use Rattle.fmp_searching.proofs.Bodies.{rests_text_end}
use Rattle.fmp_searching.proofs.claiming.append_rests.Goals as goal

pub returns : goal.returns
returns c =
    let end = rests_text_end c.args.tasks.now c.args.rest.now c.loop-t.t
    (omega (arith, c.min-count.ensures, c.loop-t-test.false)) in
    sym (append-nil c.loop-t.out.items) ∙ ap (λ r. c.loop-t.out.items ++ r) (sym end) ∙ c.loop-t.invariant
