use Rattle.std.proofs.Common.{false, None, arith}
use Rattle.fmp_base.specs.declared.states.Phase.TheVariants.{Dormant}
use Rattle.fmp_tasks.proofs.RestartLemmas.{block_more}
use Rattle.fmp_tasks.proofs.restart.restart_blocks.Goals as goal

pub loop-t-preserved : goal.loop-t-preserved
loop-t-preserved c =
    block_more c.args.now c.args.blocks.now c.loop-t.blocks c.loop-t.t
    (record {
      phase = Dormant;
      suspended = false;
      priority = 0;
      processor = 0;
      activations = 0;
      next_processor = None;
      wakeups = 0;
      deadline = None;
    }) c.time_left.result (omega arith) c.loop-t.invariant c.time_left.ensures
