use Rattle.std.proofs.Common.{get_or, of_calls, pos}
use Rattle.fmp_frames.proofs.reading.shared_words.Goals as goal

pub returns : goal.returns
returns c =
    rw c.shared_word_count.ensures.system at
    (c.each.ensures (λ i. get_or c.args.tables.now.state.shared_words i (pos 0)) (λ i x below post. search of_calls))
