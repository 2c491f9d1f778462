use Rattle.std.proofs.Common.{append_assoc}
use Rattle.fmp_searching.proofs.peak_records.append_unrun.Goals as goal

pub returns : goal.returns
returns c =
    let tasks = rw (c.deref.ensures.value, c.deref-2.ensures.value) at c.in_ok-append_unrun_rows.ensures in
    rw (c.deref-3.ensures.value, c.deref-4.ensures.value, tasks, append_assoc) at c.append_unrun_rows-2.ensures
