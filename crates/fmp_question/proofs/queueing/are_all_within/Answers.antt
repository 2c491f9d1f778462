use Rattle.std.proofs.Common.{◌<◌, arith, length}
use Rattle.fmp_schedules.specs.Schedules.{is_within}
use Rattle.fmp_question.proofs.QueueLemmas.{none-here, one-here}
use Rattle.fmp_question.proofs.queueing.are_all_within.Goals as goal

pub returns-then-not-is_within : goal.returns-then-not-is_within
returns-then-not-is_within c =
    let tasks = c.args.tables.now.state.tasks in
    let below = c.loop-t-test.true in
    let count = c.task_count-t-end.ensures.count in
    let there : c.loop-t.t < length tasks = omega (arith, below, count) in
    none-here (is_within c.args.most) tasks c.loop-t.t c.task.result c.is_within.result there c.loop-t.invariant
    c.task.ensures.value c.is_within.ensures c.if-not-is_within.true

pub loop-t-preserved : goal.loop-t-preserved
loop-t-preserved c =
    let tasks = c.args.tables.now.state.tasks in
    let below = c.loop-t-test.true in
    let count = c.task_count-t-end.ensures.count in
    let there : c.loop-t.t < length tasks = omega (arith, below, count) in
    one-here (is_within c.args.most) tasks c.loop-t.t c.task.result c.is_within.result there c.loop-t.invariant
    c.task.ensures.value c.is_within.ensures c.if-not-is_within.false
