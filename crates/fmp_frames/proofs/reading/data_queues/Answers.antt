use Rattle.std.proofs.Common.{of_calls}
use Rattle.fmp_frames.specs.Frames.{word_count}
use Rattle.fmp_frames.proofs.reading.data_queues.Goals as goal

pub returns : goal.returns
returns c =
    rw c.data_queue_count.ensures.system at
    (c.each.ensures (word_count c.args.tables.now.state) (λ i x below post. search of_calls))
