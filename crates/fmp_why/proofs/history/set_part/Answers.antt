use Rattle.std.proofs.Common.{◌<◌, ◌≤◌, arith, length}
use Rattle.fmp_why.specs.declared.history.TaskPart.{TaskPart}
use Rattle.fmp_why.proofs.HistoryLemmas.{changed-past, changed-set}
use Rattle.fmp_why.proofs.history.set_part.Goals as goal

pub returns-then-task-len : goal.returns-then-task-len
returns-then-task-len c =
    let here : c.args.task < length c.args.parts.now.items = omega arith in
    changed-set (λ (x : TaskPart). c.args.part) _ _ c.args.part here

pub returns-else-task-len : goal.returns-else-task-len
returns-else-task-len c =
    let past : length c.args.parts.now.items ≤ c.args.task = omega arith in
    changed-past (λ (x : TaskPart). c.args.part) _ _ past
