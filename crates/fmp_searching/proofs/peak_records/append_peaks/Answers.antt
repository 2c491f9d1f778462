use Rattle.std.proofs.Common.{append_assoc}
use Rattle.fmp_searching.proofs.peak_records.append_peaks.Goals as goal

pub returns : goal.returns
returns c =
    let counts = rw (c.deref.ensures.value, c.deref-2.ensures.value) at c.in_ok-append_row_peaks.ensures in
    rw (counts, append_assoc) at c.append_lengths.ensures
