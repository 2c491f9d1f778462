use Rattle.std.proofs.Common.{of_calls}
use Rattle.fmp_frames.specs.Frames.{message_count}
use Rattle.fmp_frames.proofs.reading.mailboxes.Goals as goal

pub returns : goal.returns
returns c =
    rw c.mailbox_count.ensures.system at
    (c.each.ensures (message_count c.args.tables.now.state) (λ i x below post. search of_calls))
