use Rattle.std.proofs.Common.{get_or, of_calls}
use Rattle.fmp_frames.proofs.reading.semaphores.Goals as goal

pub returns : goal.returns
returns c =
    rw c.semaphore_count.ensures.system at
    (c.each.ensures (λ i. get_or c.args.tables.now.state.semaphores i 0) (λ i x below post. search of_calls))
