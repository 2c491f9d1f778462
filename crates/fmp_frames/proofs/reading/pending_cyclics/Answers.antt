use Rattle.std.proofs.Common.{of_calls}
use Rattle.fmp_base.specs.Ticks.{is_pending}
use Rattle.fmp_frames.proofs.reading.pending_cyclics.Goals as goal

pub returns : goal.returns
returns c =
    rw c.cyclic_count.ensures.system at
    (c.each.ensures (is_pending c.args.tables.now.state.pending_cyclics) (λ i x below post. search of_calls))
