use Rattle.std.proofs.Common.{◌≡◌, ◌++◌, drop}
use Rattle.fmp_why.specs.Reports.{blockers_from, sight_of}
use Rattle.fmp_why.proofs.report.blockers_by.Given as goal

abbrev pub invariant-loop-task : goal.invariant-loop-task
invariant-loop-task l =
    l.blockers.items ++ blockers_from (sight_of l.scene) l.holders l.task (drop l.task l.scene.blocks.now)
    ≡ blockers_from (sight_of l.scene) l.holders 0 l.scene.blocks.now
