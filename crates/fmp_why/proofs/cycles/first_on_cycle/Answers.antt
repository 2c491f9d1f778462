use Rattle.std.proofs.Common.{◌∙◌, sym, min, length}
use Rattle.fmp_why.proofs.CycleLemmas.{cycle-on}
use Rattle.fmp_why.proofs.cycles.first_on_cycle.Goals as goal

pub loop-task-preserved : goal.loop-task-preserved
loop-task-preserved c =
    sym (cycle-on c.args.blockers.now (min (length c.args.blockers.now) 255) c.loop-task.task
    (rw c.min-task-end.ensures at c.loop-task-test.true) (sym c.is_on_cycle.ensures ∙ c.if-is_on_cycle.false))
    ∙ c.loop-task.invariant
