use Rattle.std.proofs.Common.{of_calls}
use Rattle.fmp_base.specs.States.{task_at}
use Rattle.fmp_frames.proofs.reading.blocks.Goals as goal

pub returns : goal.returns
returns c =
    rw c.task_count.ensures.configs at
    (c.each.ensures (task_at c.args.tables.now.state.tasks) (λ i x below post. search of_calls))
