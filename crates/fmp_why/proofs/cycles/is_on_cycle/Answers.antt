use Rattle.std.proofs.Common.{◌∙◌, ◌+◌, ◌-◌, ap, arith, length, sym, ℕ, Option}
use Rattle.std.proofs.lemmas.Bool.Decides.{nat_tests}
use Rattle.fmp_why.specs.Cycles.{leads_to}
use Rattle.fmp_why.proofs.CycleLemmas.{leads-on}
use Rattle.fmp_why.proofs.cycles.is_on_cycle.Goals as goal

pub loop-step-preserved : goal.loop-step-preserved
loop-step-preserved c =
    let bs = c.args.blockers.now in
    ap (λ (at : Option ℕ). leads_to bs c.args.task (length bs - (c.loop-step._step + 1)) at)
    c.next_of-at-in-loop-step.ensures
    ∙ sym (leads-on bs c.args.task (length bs) c.loop-step._step c.in-Some.next c.loop-step-test.true
    (grind (arith, nat_tests, c.if-next-task.false)))
    ∙ ap (λ (at : Option ℕ). leads_to bs c.args.task (length bs - c.loop-step._step) at) (sym c.in-Some.is)
    ∙ c.loop-step.invariant
