use Rattle.std.proofs.Common.{false, None, arith}
use Rattle.std.proofs.Math.ListN.{length-set}
use Rattle.fmp_base.specs.declared.states.Phase.TheVariants.{Dormant}
use Rattle.fmp_tasks.proofs.RestartLemmas.{deadline_more}
use Rattle.fmp_tasks.proofs.restart.restart_deadlines.Goals as goal

pub loop-t-preserved : goal.loop-t-preserved
loop-t-preserved c =
    record {
      long = rw (c.set_deadline.ensures, length-set) c.loop-t.invariant.long;
      items =
          rw c.set_deadline.ensures
          (deadline_more c.loop-t.deadlines c.args.blocks.now c.loop-t.t
          (record {
            phase = Dormant;
            suspended = false;
            priority = 0;
            processor = 0;
            activations = 0;
            next_processor = None;
            wakeups = 0;
            deadline = None;
          }) (omega arith) c.loop-t.invariant.long c.loop-t.invariant.items);
    }
