use Rattle.fmp_searching.proofs.covering.say_lengths.Goals as goal

pub returns : goal.returns
returns c =
    let queues =
    rw (c.new-words.ensures.items, c.deref.ensures.value, c.deref-2.ensures.value) at c.in_ok-say_row_peaks.ensures in
    let both = rw (c.deref-3.ensures.value, c.deref-4.ensures.value, queues) at c.in_ok-say_row_peaks-2.ensures in
    rw (c.deref-5.ensures.value, both) at c.say_row.ensures
