use Rattle.std.proofs.Common.{◌≡◌, ◌++◌, drop}
use Rattle.fmp_why.specs.Reports.{held_up_lines, sight_of}
use Rattle.fmp_why.proofs.report.append_all.Given as goal

abbrev pub invariant-loop-task : goal.invariant-loop-task
invariant-loop-task l =
    l.out.items ++ held_up_lines (sight_of l.scene) l.task (drop l.task l.scene.blocks.now)
    ≡ l.initial.out.items ++ held_up_lines (sight_of l.scene) 0 l.scene.blocks.now
