use Rattle.std.proofs.Common.{◌++◌, append-nil, sym, ap, ◌∙◌, arith}
use Rattle.fmp_searching.specs.Extent.{unrun_word}
use Rattle.fmp_searching.proofs.SeenLists.{numbered_end}
use Rattle.fmp_searching.proofs.covering.say_unrun_rows.Goals as goal

pub returns : goal.returns
returns g c =
    let end =
    numbered_end (λ i x ran. unrun_word (g.T.HasName.name_of x) ran)
    c.loop-i.i c.args.rows.now c.args.ran.now c.loop-i.i
    (omega (arith, c.min-count.ensures, c.loop-i-test.false)) in
    sym (append-nil c.loop-i.out.items) ∙ ap (λ r. c.loop-i.out.items ++ r) (sym end) ∙ c.loop-i.invariant
