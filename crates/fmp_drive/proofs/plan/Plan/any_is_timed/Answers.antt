use Rattle.std.proofs.Common.{add-one, arith, sym, ◌∙◌}
use Rattle.fmp_drive.specs.Plans.{is_timed}
use Rattle.fmp_drive.proofs.PlanLemmas.{none_more, one_found}
use Rattle.fmp_drive.proofs.plan.Plan.any_is_timed.Goals as goal

pub returns-then-is_timed : goal.returns-then-is_timed
returns-then-is_timed g c =
    sym (one_found (is_timed c.args.self.now.ending.items c.args.kernel.now.world.state) 0 c.args.tasks
    c.loop-task.task c.loop-task.task c.loop-task-test.true (omega arith) (sym c.is_timed.ensures ∙ c.if-is_timed.true))

pub loop-task-preserved : goal.loop-task-preserved
loop-task-preserved g c =
    rw add-one (none_more (is_timed c.args.self.now.ending.items c.args.kernel.now.world.state) 0 c.loop-task.task
    c.loop-task.task c.loop-task.invariant (omega arith) (sym c.is_timed.ensures ∙ c.if-is_timed.false))
