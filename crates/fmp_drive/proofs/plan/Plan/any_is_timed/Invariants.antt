use Rattle.std.proofs.Common.{◌≡◌, false}
use Rattle.std.specs.List.{list_any, range_with_len}
use Rattle.fmp_drive.specs.Plans.{is_timed}
use Rattle.fmp_drive.proofs.plan.Plan.any_is_timed.Given as goal

abbrev pub invariant-loop-task : goal.invariant-loop-task
invariant-loop-task g l =
    list_any (is_timed l.self.ending.items l.kernel.world.state) (range_with_len 0 l.task) ≡ false
