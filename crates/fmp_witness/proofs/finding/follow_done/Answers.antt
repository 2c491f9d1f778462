use Rattle.std.proofs.Common.{◌-◌, ◌∙◌, length, sym, take}
use Rattle.fmp_witness.proofs.BreachLemmas.{last_apart, some_last}
use Rattle.fmp_witness.proofs.LastLemmas.{done_last, done_none}
use Rattle.fmp_witness.proofs.finding.follow_done.Goals as goal

pub returns-then-is_empty : goal.returns-then-is_empty
returns-then-is_empty c = λ _.
    done_none c.args.image.now c.args.n c.args.steps.now c.args.kernel.now
    (sym c.if-is_empty.true ∙ c.is_empty.ensures) c.requires

pub returns : goal.returns
returns c = λ yes.
    let es = c.args.steps.now in
    done_last c.args.image.now c.args.n es (take (length es - 1) es) _ c.follow_to.new.kernel
    (last_apart es (length es - 1) _ (some_last es (sym c.if-is_empty.false ∙ c.is_empty.ensures)))
    (c.follow_to.ensures yes)
