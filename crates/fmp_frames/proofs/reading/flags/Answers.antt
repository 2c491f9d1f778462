use Rattle.std.proofs.Common.{of_calls}
use Rattle.fmp_base.specs.FlagCalls.{pattern_at}
use Rattle.fmp_frames.proofs.reading.flags.Goals as goal

pub returns : goal.returns
returns c =
    rw c.flag_count.ensures.system at
    (c.each.ensures (pattern_at c.args.tables.now.state) (λ i x below post. search of_calls))
