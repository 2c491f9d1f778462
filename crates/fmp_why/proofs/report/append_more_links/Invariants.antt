use Rattle.std.proofs.Common.{◌≡◌, ◌++◌, drop}
use Rattle.fmp_why.specs.Reports.{more_links, sight_of}
use Rattle.fmp_why.proofs.report.append_more_links.Given as goal

abbrev pub invariant-loop-task : goal.invariant-loop-task
invariant-loop-task l =
    l.out.items ++ more_links (sight_of l.scene) (drop l.task-index l.tasks)
    ≡ l.initial.out.items ++ more_links (sight_of l.scene) l.tasks
