use Rattle.std.proofs.Common.{of_calls}
use Rattle.fmp_base.specs.Runs.{task_state}
use Rattle.fmp_frames.proofs.reading.states.Goals as goal

pub returns : goal.returns
returns g c =
    rw (c.task_count.ensures.configs, c.tables.ensures.system) at
    (c.each.ensures (task_state c.args.kernel.now.world.state) (λ i x below post. search of_calls))
