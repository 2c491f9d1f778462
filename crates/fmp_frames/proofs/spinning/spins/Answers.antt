use Rattle.std.proofs.Common.{of_calls}
use Rattle.fmp_frames.specs.Spinning.{spin_at}
use Rattle.fmp_frames.proofs.spinning.spins.Goals as goal

pub returns : goal.returns
returns g c =
    rw (c.processor_count.ensures.system, c.tables.ensures.system) at
    (c.each.ensures (spin_at c.args.kernel.now.system (g.B.Body.meaning c.args.kernel.now.body)
    c.args.kernel.now.bound c.args.kernel.now.world c.args.processors.now) (λ i x below post. search of_calls))
