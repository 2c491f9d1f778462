use Rattle.std.proofs.Common.{◌∙◌, ◌+◌, ◌-◌, ◌++◌, ◌∷◌, [], ℕ, List, Option, append_assoc, ap, length, sym}
use Rattle.fmp_why.specs.Cycles.{cycle_tasks}
use Rattle.fmp_why.proofs.ReportLemmas.{cycle-ends, cycle-more, nothing-left}
use Rattle.fmp_why.proofs.cycles.cycle_tasks.Goals as goal

pub returns-in_default : goal.returns-in_default
returns-in_default c =
    let bs = c.args.blockers.now in
    let left = length bs - c.loop-link._link in
    nothing-left _ _ _
    (ap (λ (at : Option ℕ). cycle_tasks bs c.args.first left at) c.in_default.is ∙ cycle-ends bs c.args.first left)
    c.loop-link.invariant

pub loop-link-preserved : goal.loop-link-preserved
loop-link-preserved c =
    let bs = c.args.blockers.now in
    let first = c.args.first in
    let tasks = c.loop-link.tasks.items in
    let k = c.loop-link._link in
    let t = c.in-Some.task in
    ap (λ (items : List ℕ). items ++ cycle_tasks bs first (length bs - (k + 1)) c.next_but-at.result)
    c.in_ok-push.ensures.items
    ∙ ap (λ (at : Option ℕ). (tasks ++ t ∷ []) ++ cycle_tasks bs first (length bs - (k + 1)) at) c.next_but-at.ensures
    ∙ append_assoc tasks (t ∷ []) _
    ∙ ap (λ (rest : List ℕ). tasks ++ rest) (sym (cycle-more bs first (length bs) k t c.loop-link-test.true))
    ∙ ap (λ (at : Option ℕ). tasks ++ cycle_tasks bs first (length bs - k) at) (sym c.in-Some.is)
    ∙ c.loop-link.invariant
