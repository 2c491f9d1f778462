use Rattle.std.proofs.Common.{arith}
use Rattle.fmp_kernel.proofs.RestoredLemmas.{settled_world}
use Rattle.fmp_kernel.proofs.restoring.is_settled.Goals as goal

pub returns : goal.returns
returns g c =
    λ e. settled_world c.args.tables.now.system
    (record { state = c.args.tables.now.state; contexts = c.args.contexts.now })
    (record {
      tasks = omega (arith, c.task_count.ensures.count, c.task_count.ensures.configs);
      cyclics = omega (arith, c.cyclic_count.ensures.pending, c.cyclic_count.ensures.system);
      handlers =
          omega (arith, c.requires.handlers, c.processor_count.ensures.state, c.processor_count.ensures.system);
    }) (c.are_settled.ensures c.if-not-are_settled.false) (c.are_kept.ensures e)
