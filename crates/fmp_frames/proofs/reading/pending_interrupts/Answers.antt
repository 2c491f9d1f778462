use Rattle.std.proofs.Common.{of_calls}
use Rattle.fmp_base.specs.Ticks.{is_pending}
use Rattle.fmp_frames.proofs.reading.pending_interrupts.Goals as goal

pub returns : goal.returns
returns c = c.each.ensures (is_pending c.args.tables.now.state.pending_interrupts) (λ i x below post. search of_calls)
