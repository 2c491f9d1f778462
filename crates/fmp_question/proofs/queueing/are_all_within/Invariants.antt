use Rattle.std.proofs.Common.{◌≡◌, drop}
use Rattle.std.specs.List.{list_all}
use Rattle.fmp_schedules.specs.Schedules.{is_within}
use Rattle.fmp_question.proofs.queueing.are_all_within.Given as goal

abbrev pub invariant-loop-t : goal.invariant-loop-t
invariant-loop-t l =
    list_all (is_within l.most) (drop l.t l.tables.state.tasks) ≡ list_all (is_within l.most) l.tables.state.tasks
