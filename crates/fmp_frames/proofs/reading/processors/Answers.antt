use Rattle.std.proofs.Common.{of_calls}
use Rattle.fmp_base.specs.States.{processor_at}
use Rattle.fmp_frames.proofs.reading.processors.Goals as goal

pub returns : goal.returns
returns c =
    rw c.processor_count.ensures.system at
    (c.each.ensures (processor_at c.args.tables.now.state) (λ i x below post. search of_calls))
