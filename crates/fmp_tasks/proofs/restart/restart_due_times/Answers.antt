use Rattle.std.proofs.Common.{arith}
use Rattle.fmp_tasks.proofs.RestartLemmas.{due_more}
use Rattle.fmp_tasks.proofs.restart.restart_due_times.Goals as goal

pub loop-c-preserved : goal.loop-c-preserved
loop-c-preserved c =
    rw (c.set_due_time.ensures, c.time_left.ensures)
    (due_more c.args.now c.args.cyclics.now c.loop-c.cyclics c.loop-c.c c.due_time.result (omega arith)
    c.loop-c.invariant c.due_time.ensures)
